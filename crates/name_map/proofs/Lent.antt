-- Facts that hold where an option or a result has a value.
use Rattle.std.proofs.Common.{◌≡◌, Option, Some, None, Result, Ok, Err, OnOk, OnErr}
use Rattle.std.specs.Prelude.{OnSome}

pub on_none : {A : Type 0} (P : Type 0) (r : Option A) → r ≡ None → OnSome r P
on_none P None e = tt
on_none P (Some x) e = absurd (cc)

pub on_some : {A : Type 0} {P : Type 0} (r : Option A) (x : A) → r ≡ Some x → OnSome r P → P
on_some None x e p = absurd (cc)
on_some (Some y) x e p = p

pub on_any : {A : Type 0} {P : Type 0} (r : Option A) → P → OnSome r P
on_any None p = tt
on_any (Some x) p = p

pub on_map : {A : Type 0} {P Q : Type 0} (r : Option A) → (P → Q) → OnSome r P → OnSome r Q
on_map None f p = tt
on_map (Some x) f p = f p

pub on_ok_map : {A E : Type 0} {P Q : Type 0} (r : Result A E) → (P → Q) → OnOk r P → OnOk r Q
on_ok_map (Ok x) f p = f p
on_ok_map (Err e) f p = tt

pub on_err_map : {A E : Type 0} {P Q : Type 0} (r : Result A E) → (P → Q) → OnErr r P → OnErr r Q
on_err_map (Ok x) f p = tt
on_err_map (Err e) f p = f p

pub on_err_any : {A E : Type 0} {P : Type 0} (r : Result A E) → P → OnErr r P
on_err_any (Ok x) p = tt
on_err_any (Err e) p = p
