-- How the number of a name changes with one more name.
use Rattle.std.proofs.Common.{◌≡◌, ◌≢◌, ◌<◌, ℕ, suc, List, [], ◌∷◌, ◌++◌, length, Option, Some, None, refl, sym, ap, subst, ◌∙◌, Bool, true, false, cond, arith, String, Global, length-append}
use Rattle.std.specs.Prelude.{option_map, codes, bytes_eq}
use Rattle.std.specs.BTreeMap.{get_by_text, Updates}
use Rattle.std.specs.String.{string_cmp, string_bytes}
use Rattle.std.proofs.lemmas.Map.Text.{btree_map_updates_text}
use Rattle.std.proofs.lemmas.Slice.Eq.{bytes_eq-Decides}
use Rattle.akl_text.proofs.Names.{same_bytes, other_bytes, differ}
use Rattle.akl_lexemes.specs.Lexemes.{place_of, number_of}
use Rattle.akl_lexemes.specs.declared.names.Names.TheInside.{Inside}
use Rattle.akl_lexemes.specs.NumberMap.{NumbersAgree}

-- ---- equal texts
pub equal_texts : (a b : List ℕ) → a ≡ b → bytes_eq a b ≡ true
equal_texts a b e = (bytes_eq-Decides a b).1 e

-- ---- the place of a name with one more behind
place_other : (name key : List ℕ) (names : List (List ℕ)) → bytes_eq key name ≡ false → place_of name (names ++ key ∷ []) ≡ place_of name names
place_other name key [] e = rw e refl
place_other name key (n ∷ names) e = ap (λ (z : Option ℕ). cond (bytes_eq n name) (Some 0) (option_map suc z)) (place_other name key names e)

some_not_none : {x : ℕ} → Some x ≡ None → ⊥
some_not_none e = absurd cc

no_place_head : (b : Bool) (x : Option ℕ) → cond b (Some 0) (option_map suc x) ≡ None → (b ≡ false) × (x ≡ None)
no_place_head true x e = absurd (some_not_none e)
no_place_head false None e = (refl, refl)
no_place_head false (Some x) e = absurd (some_not_none e)

place_next : (name : List ℕ) (names : List (List ℕ)) → place_of name names ≡ None → place_of name (names ++ name ∷ []) ≡ Some (length names)
place_next name [] e = rw (equal_texts name name refl) refl
place_next name (n ∷ names) e =
    let h = no_place_head (bytes_eq n name) (place_of name names) e in
    rw (h.0, place_next name names h.1) refl

-- ---- the number of a name with one more behind
anonymous_other : (name : List ℕ) (names : List (List ℕ)) (b : Bool) → bytes_eq name (codes "_") ≡ b → number_of name (names ++ codes "_" ∷ []) ≡ number_of name names
anonymous_other name names true e = rw e refl
anonymous_other name names false e = rw e (place_other name (codes "_") names (differ (codes "_") name (λ f. other_bytes name (codes "_") e (sym f))))

pub number_anonymous : (name : List ℕ) (names : List (List ℕ)) → number_of name (names ++ codes "_" ∷ []) ≡ number_of name names
number_anonymous name names = anonymous_other name names (bytes_eq name (codes "_")) refl

named_place : (key : List ℕ) (names : List (List ℕ)) → key ≢ codes "_" → number_of key names ≡ None → place_of key names ≡ None
named_place key names f e = rw (differ key (codes "_") f) at e

number_cases : (key name : List ℕ) (names : List (List ℕ)) (b : Bool) → bytes_eq key name ≡ b → key ≢ codes "_" → number_of key names ≡ None
    → number_of name (names ++ key ∷ []) ≡ cond b (Some (length names)) (number_of name names)
number_cases key name names true e f n =
    subst (λ (z : List ℕ). number_of z (names ++ key ∷ []) ≡ Some (length names)) (same_bytes key name e) (rw (differ key (codes "_") f) (place_next key names (named_place key names f n)))
number_cases key name names false e f n = ap (λ (z : Option ℕ). cond (bytes_eq name (codes "_")) None z) (place_other name key names e)

pub number_named : (key name : List ℕ) (names : List (List ℕ)) → key ≢ codes "_" → number_of key names ≡ None → number_of name (names ++ key ∷ []) ≡ cond (bytes_eq key name) (Some (length names)) (number_of name names)
number_named key name names f n = number_cases key name names (bytes_eq key name) refl f n

-- ---- the map
pub NumbersAgree-anonymous : (t u : Inside) → NumbersAgree t → u.numbers ≡ t.numbers → u.names.items ≡ t.names.items ++ codes "_" ∷ [] → length t.names.items < 4294967295 → NumbersAgree u
NumbersAgree-anonymous t u k numbers names room = record {
  small = rw names (omega (arith, length-append {A = List ℕ}, room));
  number = λ name. rw (numbers, names) (k.number name ∙ sym (number_anonymous name t.names.items));
}

pub NumbersAgree-named : (t u : Inside) (key : String Global) (number : ℕ) → NumbersAgree t → u.names.items ≡ t.names.items ++ string_bytes key ∷ [] → number ≡ length t.names.items → length t.names.items < 4294967295
    → string_bytes key ≢ codes "_" → number_of (string_bytes key) t.names.items ≡ None → Updates string_cmp t.numbers u.numbers key (Some number) → NumbersAgree u
NumbersAgree-named t u key number k names is room named new updates = record {
  small = rw names (omega (arith, length-append {A = List ℕ}, room));
  number = λ name. (
      let e : get_by_text u.numbers name ≡ cond (bytes_eq (string_bytes key) name) (Some number) (get_by_text t.numbers name) = btree_map_updates_text (string_bytes key) t.numbers u.numbers (Some number) updates name in
      rw (names, e, k.number name, is) (sym (number_named (string_bytes key) name t.names.items named new)));
}
