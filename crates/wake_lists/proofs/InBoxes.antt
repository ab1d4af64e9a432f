-- Tokens in boxes, when one is added or taken out.
use Rattle.std.proofs.Common.{◌≡◌, ℕ, ◌≤◌, ◌+◌, Bool, true, false, List, [], ◌∷◌, length, Option, Some, None, refl, sym, ap, ◌∙◌, arith}
use Rattle.std.proofs.lemmas.Bool.Decides.{nat_tests}
use Rattle.std.specs.Prelude.{◌||◌, ◌&&◌, ◌==◌, not, if◌then◌else◌}
use Rattle.std.specs.Option.{IfSome, IfNone, OnSome}
use Rattle.std.specs.Map.{lookup}
use Rattle.akl_terms.specs.declared.name.Name.{Name}
use Rattle.akl_terms.specs.Names.{same_name}
use Rattle.akl_terms.proofs.SameNames.{same_name-equal}
use Rattle.name_map.specs.Entries.{Finds}
use Rattle.wake_lists.specs.TokenSets.{is_token_in, IsLeastIn, IsOtherIn}
use Rattle.wake_lists.specs.Standing.{InBoxes, is_among, stands}

-- in a box without tokens none stands
pub none_in : (bs : InBoxes) (name : Name) → lookup (same_name name) bs ≡ None → (t : ℕ) → stands bs t name ≡ false
none_in bs name none t = ap (is_among t) none

-- The tokens of a box
module _ (bs : InBoxes) (name : Name) (ts : List ℕ) (is : lookup (same_name name) bs ≡ Some ts) where
  pub stands_is : (t : ℕ) → stands bs t name ≡ is_token_in t ts
  stands_is t = ap (is_among t) is

  pub first_there : (o : Option ℕ) → IsLeastIn ts o → IfSome o (λ t. stands bs t name ≡ true)
  first_there None a = tt
  first_there (Some t) a = stands_is t ∙ a.0

  pub first_least : (o : Option ℕ) → IsLeastIn ts o → IfSome o (λ t. (s : ℕ) → stands bs s name ≡ true → t ≤ s)
  first_least None a = tt
  first_least (Some t) a = λ s e. a.1 s (sym (stands_is s) ∙ e)

  pub first_none : (o : Option ℕ) → IsLeastIn ts o → IfNone o ((t : ℕ) → stands bs t name ≡ false)
  first_none None a = λ t. stands_is t ∙ ap (is_token_in t) a
  first_none (Some t) a = tt

  module _ (token : ℕ) where
    pub other_there : (o : Option ℕ) → IsOtherIn ts token o → IfSome o (λ t. stands bs t name ≡ true)
    other_there None a = tt
    other_there (Some t) a = stands_is t ∙ a.0

    pub other_apart : (o : Option ℕ) → IsOtherIn ts token o → IfSome o (λ t. t ≡ token → ⊥)
    other_apart None a = tt
    other_apart (Some t) a = a.1

    pub other_none : (o : Option ℕ) → IsOtherIn ts token o → IfNone o ((t : ℕ) → stands bs t name ≡ true → t ≡ token)
    other_none None a = λ t e. a t (sym (stands_is t) ∙ e)
    other_none (Some t) a = tt

-- The tokens of one box become others
module _ (name : Name) (old new : InBoxes) (w : Option (List ℕ)) (finds : Finds old new name w) where
  changed : (t : ℕ) (n : Name) → stands new t n ≡ (if same_name n name then is_among t w else stands old t n)
  changed t n = ap (is_among t) (finds n) ∙ on (same_name n name)
    where
      on : (s : Bool) → is_among t (if s then w else lookup (same_name n) old) ≡ (if s then is_among t w else stands old t n)
      on true = refl
      on false = refl

  there : (t : ℕ) (n : Name) → same_name n name ≡ true → stands old t name ≡ stands old t n
  there t n e = ap (stands old t) (sym (same_name-equal n name e))

  pub unmoved : ((t : ℕ) → is_among t w ≡ stands old t name) → (t : ℕ) (n : Name) → stands new t n ≡ stands old t n
  unmoved h t n = changed t n ∙ on (same_name n name) refl
    where
      on : (s : Bool) → same_name n name ≡ s → (if s then is_among t w else stands old t n) ≡ stands old t n
      on true e = h t ∙ there t n e
      on false e = refl

  pub joined : (token : ℕ) → ((t : ℕ) → is_among t w ≡ (stands old t name || (t == token))) → (t : ℕ) (n : Name) → stands new t n ≡ (stands old t n || ((t == token) && same_name n name))
  joined token h t n = changed t n ∙ on (same_name n name) refl
    where
      yes : (a b : Bool) → (a || b) ≡ (a || (b && true))
      yes true b = refl
      yes false true = refl
      yes false false = refl

      no : (a b : Bool) → a ≡ (a || (b && false))
      no true b = refl
      no false true = refl
      no false false = refl

      on : (s : Bool) → same_name n name ≡ s → (if s then is_among t w else stands old t n) ≡ (stands old t n || ((t == token) && s))
      on true e = h t ∙ ap (λ (b : Bool). b || (t == token)) (there t n e) ∙ yes (stands old t n) (t == token)
      on false e = no (stands old t n) (t == token)

  pub parted : (token : ℕ) → ((t : ℕ) → is_among t w ≡ (stands old t name && not (t == token))) → (t : ℕ) (n : Name) → stands new t n ≡ (stands old t n && not ((t == token) && same_name n name))
  parted token h t n = changed t n ∙ on (same_name n name) refl
    where
      yes : (a b : Bool) → (a && not b) ≡ (a && not (b && true))
      yes a true = refl
      yes a false = refl

      no : (a b : Bool) → a ≡ (a && not (b && false))
      no true true = refl
      no true false = refl
      no false b = refl

      on : (s : Bool) → same_name n name ≡ s → (if s then is_among t w else stands old t n) ≡ (stands old t n && not ((t == token) && s))
      on true e = h t ∙ ap (λ (b : Bool). b && not (t == token)) (there t n e) ∙ yes (stands old t n) (t == token)
      on false e = no (stands old t n) (t == token)

-- a change of a box's tokens, and then another one
pub changed_twice : (name : Name) (old mid new : InBoxes) (v w : Option (List ℕ)) → Finds old mid name v → Finds mid new name w → Finds old new name w
changed_twice name old mid new v w h k m = k m ∙ on (same_name m name) (h m)
  where
    on : (s : Bool) → lookup (same_name m) mid ≡ (if s then v else lookup (same_name m) old) → (if s then w else lookup (same_name m) mid) ≡ (if s then w else lookup (same_name m) old)
    on true e = refl
    on false e = e

pub on_some : {A P : Type 0} (o : Option A) (x : A) → o ≡ Some x → OnSome o P → P
on_some None x e h = absurd (cc)
on_some (Some y) x e h = h

-- a token that doesn't stand in a box isn't taken out of it
pub parted_none : (ss : InBoxes) (name : Name) (token : ℕ) → stands ss token name ≡ false → (t : ℕ) (n : Name) → stands ss t n ≡ (stands ss t n && not ((t == token) && same_name n name))
parted_none ss name token none t n = on (t == token) refl (same_name n name) refl
  where
    stays : (a : Bool) → a ≡ (a && true)
    stays true = refl
    stays false = refl

    gone : (a : Bool) → a ≡ false → a ≡ (a && false)
    gone true e = e
    gone false e = refl

    on : (b : Bool) → (t == token) ≡ b → (s : Bool) → same_name n name ≡ s → stands ss t n ≡ (stands ss t n && not (b && s))
    on true e true f =
        let same : t ≡ token = grind (arith, nat_tests) in
        gone (stands ss t n) ((λ i. stands ss (same i) (same_name-equal n name f i)) ∙ none)
    on true e false f = stays (stands ss t n)
    on false e s f = stays (stands ss t n)

pub empty_list : (ts : List ℕ) → (length ts == 0) ≡ true → ts ≡ []
empty_list [] e = refl
empty_list (t ∷ ts) e = let no : length ts + 1 ≡ 0 = grind (arith, nat_tests) in absurd (omega arith)
