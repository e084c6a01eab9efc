-- Elements of degree d as four parts are an abelian group, multiplication by the base is additive, and negation keeps sums, differences and it.
use mathlib.Core.Path.{sym, ◌∙◌}
use mathlib.Core.List.{List}
use Prim.Native.Nat.{ℕ}
use native.Mathlib.Omega.{arith}
use lib.ListN.{length-replicate}
use lib.IntN.{ℤ, pos}
use Rattle.ring.specs.Element.{negative}
use Rattle.ring.specs.Padded.{width}
use Rattle.ring.proofs.Element.{plus_assoc, plus_comm, plus_parts, length_negative, minus_parts, negative_sum, negative_difference, minus_plus, zeros_plus}
use Rattle.ring.proofs.Padded.{length_padded_times, padded_times_plus, padded_times_negative}
use Rattle.numeration.specs.Laws.{AdditiveGroup, Endomorphism, HasParts}
use Rattle.numeration.specs.Elements.{elements}

pub elements_group : (d : ℕ) (matrix : List (List ℤ)) → AdditiveGroup (elements d matrix) (HasParts width)
unfolding elements
elements_group d matrix =
    record {
      element_none = length-replicate width (pos 0);
      element_sum = λ {x} {y} p q. plus_parts width x y p q;
      element_difference = λ {x} {y} p q. minus_parts width x y p q;
      element_base = λ {x} p. length_padded_times d matrix x;
      assoc = λ {x} {y} {z} p q r. plus_assoc x y z;
      comm = λ {x} {y} p q. plus_comm x y;
      unit = λ {x} p. zeros_plus x width (omega arith);
      cancel = λ {x} {y} p q. minus_plus x y (p ∙ sym q);
      additive = λ {x} {y} p q. padded_times_plus d matrix x y;
    }

pub negative_keeps : (d : ℕ) (matrix : List (List ℤ)) → Endomorphism (elements d matrix) (HasParts width) negative
unfolding elements
negative_keeps d matrix =
    record {
      element = λ {x} p. length_negative x ∙ p;
      keeps_sum = λ {x} {y} p q. sym (negative_sum x y);
      keeps_difference = λ {x} {y} p q. sym (negative_difference x y);
      keeps_base = λ {x} p. sym (padded_times_negative d matrix x);
    }
