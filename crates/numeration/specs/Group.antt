-- Elements: an abelian group with an additive map. Document 01's elements with multiplication by the base are one.

-- zero, sum, difference, and the base times an element
pub record Operations (A : Type 0) : Type 0 where
  pub none : A
  pub sum : A → A → A
  pub difference : A → A → A
  pub base : A → A
