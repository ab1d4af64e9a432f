-- What several clauses say of one answer.
use Rattle.std.proofs.Common.{Result, Ok, Err}
use Rattle.std.specs.Result.{IfOk}

pub IfOk-all : {T E : Type 0} → (r : Result T E) (P Q R S : T → Type 0) → ((t : T) → P t → Q t → R t → S t) → IfOk r P → IfOk r Q → IfOk r R → IfOk r S
IfOk-all (Ok t) P Q R S f p q r = f t p q r
IfOk-all (Err e) P Q R S f p q r = tt

pub IfOk-both : {T E : Type 0} → (r : Result T E) (P Q S : T → Type 0) → ((t : T) → P t → Q t → S t) → IfOk r P → IfOk r Q → IfOk r S
IfOk-both r P Q S f p q = IfOk-all r P Q Q S (λ t a b c. f t a b) p q q
