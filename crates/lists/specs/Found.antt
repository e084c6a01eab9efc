-- Pinned by the laws of proofs/Found.antt: a reader may skip this file. A place among n, as the code's Option has it: where the definitions say n, it is none of them.
use Rattle.std.specs.Prelude.{cond, ℕ, ltb, Option, Some, None}

-- the place where it is below n
unfoldable pub below : ℕ → ℕ → Option ℕ
below n i = cond (ltb i n) (Some i) None
