-- A text of plain characters, each of which is one byte, its code.
use Rattle.std.specs.Prelude.{List, [], ◌∷◌, ℕ}
use Prim.Native.Char.{code}
use Prim.Native.String.{String, [] as none, ◌∷◌ as ◌before◌}

-- the bytes of a text
unfoldable pub bytes_of : String → List ℕ
bytes_of none = []
bytes_of (character before text) = code character ∷ bytes_of text
