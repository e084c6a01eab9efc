-- A part of a buffer that was given other bytes, as the buffer with them written over it.
use mathlib.Core.Path.{◌≡◌, ap, ap₂, ◌∙◌}
use mathlib.Core.List.{List, ◌++◌}
use Prim.Native.Nat.{ℕ, ◌+◌}
use lib.ListN.{length, take, drop}
use lib.Seq.{drop-drop}
use borrow.Rule.Slice.PartMut.{put_mid}
use Rattle.lists.specs.Overwrite.{overwrite}

pub put_mid-overwrite : (s part new : List ℕ) (p k : ℕ) → part ≡ new → k ≡ length new → put_mid p k s part ≡ overwrite s p new
unfolding overwrite
put_mid-overwrite s part new p k same long =
    ap₂ (λ (x rest : List ℕ). take p s ++ (x ++ rest)) same (drop-drop k p s ∙ ap (λ (n : ℕ). drop (p + n) s) long)
