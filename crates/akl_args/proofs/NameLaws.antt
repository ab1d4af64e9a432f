-- The names of options.
use Rattle.std.proofs.Common.{◌≡◌, ◌∙◌, ap, sym, refl, Bool, true, false, List, ℕ, ◌∷◌, Option, Some, None, bytes_eq, if◌then◌else◌}
use Rattle.std.proofs.lemmas.Slice.Eq.{bytes_eq-Decides}
use Rattle.akl_args.specs.Flags.{flag_named, flag_id}
use Rattle.akl_args.specs.Settings.{setting_named, id_of}
use Rattle.akl_args.specs.declared.flag.Flag.{Flag}
use Rattle.akl_args.specs.declared.flag.Flag.TheVariants.{Trace, Why, Model}
use Rattle.akl_args.specs.declared.setting.Setting.{Setting}
use Rattle.akl_args.specs.declared.setting.Setting.TheVariants.{Query, Generate, Workers, Budget}

-- an id behind two hyphens
abbrev pub hyphened : List ℕ → List ℕ
hyphened id = 45 ∷ 45 ∷ id

abbrev pub name_of : Setting → List ℕ
name_of setting = hyphened (id_of setting)

abbrev pub flag_name : Flag → List ℕ
flag_name flag = hyphened (flag_id flag)

-- of options that are asked for one by one, the first or one behind it has the name
first_named : {A : Type 0} (name_at : A → List ℕ) (name : List ℕ) (x y : A) (rest : Option A) → (rest ≡ Some y → name ≡ name_at y)
    → (if bytes_eq name (name_at x) then Some x else rest) ≡ Some y → name ≡ name_at y
first_named name_at name x y rest behind h = go (bytes_eq name (name_at x)) refl h
  where
    go : (b : Bool) → bytes_eq name (name_at x) ≡ b → (if b then Some x else rest) ≡ Some y → name ≡ name_at y
    go true is k = let same : x ≡ y = cc in (bytes_eq-Decides name (name_at x)).0 is ∙ ap name_at same
    go false is k = behind k

pub named : (name : List ℕ) (x : Setting) → setting_named name ≡ Some x → name ≡ name_of x
named name x h =
    first_named name_of name Query x _
    (first_named name_of name Generate x _ (first_named name_of name Workers x _ (first_named name_of name Budget x None (λ k. cc)))) h

pub flag_has_name : (name : List ℕ) (x : Flag) → flag_named name ≡ Some x → name ≡ flag_name x
flag_has_name name x h = first_named flag_name name Trace x _ (first_named flag_name name Why x _ (first_named flag_name name Model x None (λ k. cc))) h

-- an option has its own name, and none of the other kind
own_name : (x : Setting) → setting_named (name_of x) ≡ Some x
own_name Query = refl
own_name Generate = refl
own_name Workers = refl
own_name Budget = refl

own_flag_name : (x : Flag) → flag_named (flag_name x) ≡ Some x
own_flag_name Trace = refl
own_flag_name Why = refl
own_flag_name Model = refl

no_flag_named : (x : Setting) → flag_named (name_of x) ≡ None
no_flag_named Query = refl
no_flag_named Generate = refl
no_flag_named Workers = refl
no_flag_named Budget = refl

inside : {A : Type 0} (x y : A) → Some x ≡ Some y → x ≡ y
inside x y h = cc

-- ids that a function tells apart by their names are not equal
told_apart : {A : Type 0} (named : List ℕ → Option A) (id other : List ℕ) (x : A) → named (hyphened id) ≡ Some x → named (hyphened other) ≡ None → bytes_eq id other ≡ false
told_apart named id other x own none = go (bytes_eq id other) refl
  where
    go : (b : Bool) → bytes_eq id other ≡ b → b ≡ false
    go true is =
        let same : named (hyphened id) ≡ named (hyphened other) = ap (λ (i : List ℕ). named (hyphened i)) ((bytes_eq-Decides id other).0 is) in
        cc
    go false is = refl

same_named : {A : Type 0} (named : List ℕ → Option A) (id other : List ℕ) (x y : A) → named (hyphened id) ≡ Some x → named (hyphened other) ≡ Some y
    → bytes_eq id other ≡ true → x ≡ y
same_named named id other x y own also is =
    inside x y (sym own ∙ ap (λ (i : List ℕ). named (hyphened i)) ((bytes_eq-Decides id other).0 is) ∙ also)

-- two options have two ids
pub same_setting : (x y : Setting) → bytes_eq (id_of x) (id_of y) ≡ true → x ≡ y
same_setting x y is = same_named setting_named (id_of x) (id_of y) x y (own_name x) (own_name y) is

pub equal_self : (x : Flag) → bytes_eq (flag_id x) (flag_id x) ≡ true
equal_self x = (bytes_eq-Decides (flag_id x) (flag_id x)).1 refl

pub same_flag : (x y : Flag) → bytes_eq (flag_id x) (flag_id y) ≡ true → x ≡ y
same_flag x y is = same_named flag_named (flag_id x) (flag_id y) x y (own_flag_name x) (own_flag_name y) is

pub flag_is_not : (flag : Flag) (setting : Setting) → bytes_eq (flag_id flag) (id_of setting) ≡ false
flag_is_not flag setting = told_apart flag_named (flag_id flag) (id_of setting) flag (own_flag_name flag) (no_flag_named setting)

pub setting_is_not : (setting : Setting) (flag : Flag) → bytes_eq (id_of setting) (flag_id flag) ≡ false
setting_is_not setting flag = told_apart setting_named (id_of setting) (flag_id flag) setting (own_name setting) (no_setting_named flag)
  where
    no_setting_named : (x : Flag) → setting_named (flag_name x) ≡ None
    no_setting_named Trace = refl
    no_setting_named Why = refl
    no_setting_named Model = refl
