-- The laws of a commutative ring that lib.IntN lacks, and a rule set of them for identities.
use mathlib.Core.Path.{◌≡◌, sym, ap, ap₂, ◌∙◌}
use Prim.Native.Nat.{zero, suc}
use lib.IntN.{ℤ, pos, negsuc, suc_ℤ, pred_ℤ, neg_ℤ, ◌+ℤ◌, ◌-ℤ◌, ◌*ℤ◌, one, +ℤ_assoc, +ℤ_comm, +ℤ_idl, *ℤ_comm, *ℤ-one, zero-*ℤ, suc_ℤ-*ℤ, pred_ℤ-*ℤ, neg_ℤ-+ℤ, neg_ℤ-suc_ℤ, neg_ℤ-pred_ℤ, neg_ℤ-neg_ℤ, -ℤ-+ℤ_cancel}

-- from zero, one up and one down reach every integer
pub each : (P : ℤ → Type 0) → P (pos zero) → ((k : ℤ) → P k → P (suc_ℤ k)) → ((k : ℤ) → P k → P (pred_ℤ k)) → (k : ℤ) → P k
each P z up down (pos zero) = z
each P z up down (pos (suc n)) = up (pos n) (each P z up down (pos n))
each P z up down (negsuc zero) = down (pos zero) z
each P z up down (negsuc (suc n)) = down (negsuc n) (each P z up down (negsuc n))

pub +-left_comm : (a b c : ℤ) → a +ℤ (b +ℤ c) ≡ b +ℤ (a +ℤ c)
+-left_comm a b c = sym (+ℤ_assoc a b c) ∙ ap (λ x. x +ℤ c) (+ℤ_comm a b) ∙ +ℤ_assoc b a c

-- two sums added crosswise
pub +-cross : (a b c d : ℤ) → (a +ℤ b) +ℤ (c +ℤ d) ≡ (a +ℤ c) +ℤ (b +ℤ d)
+-cross a b c d = simp (+ℤ_assoc, +-left_comm)

pub neg-* : (a b : ℤ) → neg_ℤ a *ℤ b ≡ neg_ℤ (a *ℤ b)
neg-* a b =
    each (λ k. neg_ℤ k *ℤ b ≡ neg_ℤ (k *ℤ b)) (zero-*ℤ b ∙ sym (ap neg_ℤ (zero-*ℤ b)))
    (λ k ih. rw (neg_ℤ-suc_ℤ k, pred_ℤ-*ℤ (neg_ℤ k) b, suc_ℤ-*ℤ k b, neg_ℤ-+ℤ (k *ℤ b) b, ih))
    (λ k ih. rw (neg_ℤ-pred_ℤ k, suc_ℤ-*ℤ (neg_ℤ k) b, pred_ℤ-*ℤ k b, neg_ℤ-+ℤ (k *ℤ b) (neg_ℤ b), neg_ℤ-neg_ℤ b, ih)) a

pub *-distrib : (a b c : ℤ) → a *ℤ (b +ℤ c) ≡ a *ℤ b +ℤ a *ℤ c
*-distrib a b c =
    each (λ k. k *ℤ (b +ℤ c) ≡ k *ℤ b +ℤ k *ℤ c) (rw (zero-*ℤ (b +ℤ c), zero-*ℤ b, zero-*ℤ c))
    (λ k ih. rw (suc_ℤ-*ℤ k (b +ℤ c), suc_ℤ-*ℤ k b, suc_ℤ-*ℤ k c, ih, +-cross (k *ℤ b) (k *ℤ c) b c))
    (λ k ih. rw (pred_ℤ-*ℤ k (b +ℤ c), pred_ℤ-*ℤ k b, pred_ℤ-*ℤ k c, ih, neg_ℤ-+ℤ b c, +-cross (k *ℤ b) (k *ℤ c) (neg_ℤ b) (neg_ℤ c))) a

pub +-distrib : (a b c : ℤ) → (a +ℤ b) *ℤ c ≡ a *ℤ c +ℤ b *ℤ c
+-distrib a b c = *ℤ_comm (a +ℤ b) c ∙ *-distrib c a b ∙ ap₂ (λ x y. x +ℤ y) (*ℤ_comm c a) (*ℤ_comm c b)

pub *-neg : (a b : ℤ) → a *ℤ neg_ℤ b ≡ neg_ℤ (a *ℤ b)
*-neg a b = *ℤ_comm a (neg_ℤ b) ∙ neg-* b a ∙ ap neg_ℤ (*ℤ_comm b a)

pub *-assoc : (a b c : ℤ) → (a *ℤ b) *ℤ c ≡ a *ℤ (b *ℤ c)
*-assoc a b c =
    each (λ k. (k *ℤ b) *ℤ c ≡ k *ℤ (b *ℤ c)) (rw (zero-*ℤ b, zero-*ℤ c, zero-*ℤ (b *ℤ c)))
    (λ k ih. rw (suc_ℤ-*ℤ k b, +-distrib (k *ℤ b) b c, suc_ℤ-*ℤ k (b *ℤ c), ih))
    (λ k ih. rw (pred_ℤ-*ℤ k b, +-distrib (k *ℤ b) (neg_ℤ b) c, pred_ℤ-*ℤ k (b *ℤ c), ih, neg-* b c)) a

pub *-left_comm : (a b c : ℤ) → a *ℤ (b *ℤ c) ≡ b *ℤ (a *ℤ c)
*-left_comm a b c = sym (*-assoc a b c) ∙ ap (λ x. x *ℤ c) (*ℤ_comm a b) ∙ *-assoc b a c

pub *-one : (a : ℤ) → a *ℤ pos 1 ≡ a
unfolding one
*-one a = *ℤ-one a

pub one-* : (a : ℤ) → pos 1 *ℤ a ≡ a
one-* a = *ℤ_comm (pos 1) a ∙ *-one a

-- a difference that is zero
pub -zero→≡ : (a b : ℤ) → a -ℤ b ≡ pos 0 → a ≡ b
-zero→≡ a b h = sym (-ℤ-+ℤ_cancel a b) ∙ ap (λ x. x +ℤ b) h ∙ +ℤ_idl b

-- for `simp`: sums of products, written out and sorted
pub ruleset identities = (+ℤ_assoc, +ℤ_comm, +-left_comm, *-assoc, *ℤ_comm, *-left_comm, *-distrib, +-distrib, neg-*, *-neg, neg_ℤ-+ℤ, neg_ℤ-neg_ℤ)
