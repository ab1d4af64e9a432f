-- A fact of what a test chooses.
use Rattle.std.proofs.Common.{◌≡◌, Bool, true, false, cond, refl}
use Rattle.std.specs.Prelude.{◌||◌}

pub by_cond : {A : Type 0} (P : A → Type 0) (x : Bool) (a b : A) → (x ≡ true → P a) → (x ≡ false → P b) → P (cond x a b)
by_cond P true a b f g = f refl
by_cond P false a b f g = g refl

pub when_true : {A : Type 0} (P : A → Type 0) (x : Bool) (a b : A) → x ≡ true → P a → P (cond x a b)
when_true P true a b e h = h
when_true P false a b e h = absurd cc

pub when_false : {A : Type 0} (P : A → Type 0) (x : Bool) (a b : A) → x ≡ false → P b → P (cond x a b)
when_false P true a b e h = absurd cc
when_false P false a b e h = h

pub or_left : (x y : Bool) → x ≡ true → (x || y) ≡ true
or_left x y e = rw e refl

pub or_right : (x y : Bool) → y ≡ true → (x || y) ≡ true
or_right true y e = refl
or_right false y e = e
