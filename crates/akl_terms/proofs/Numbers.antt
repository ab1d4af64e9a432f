-- What the map of symbol numbers tells.
use Rattle.std.proofs.Common.{◌≡◌, ◌<◌, ℕ, List, [], ◌∷◌, ◌++◌, length, slice_get, Some, None, sym, ◌∙◌, ap, ◌⊎◌, inl, inr, arith, true, false, cond, String, Global, length-append}
use Rattle.std.specs.BTreeMap.{get_by_text, BTreeMap, Updates}
use Rattle.std.specs.String.{string_cmp, string_bytes}
use Rattle.std.specs.Str.{bytes_eq}
use Rattle.std.proofs.lemmas.Map.Text.{btree_map_updates_text}
use Rattle.std.proofs.lemmas.Slice.Eq.{bytes_eq-Decides}
use Rattle.std.proofs.lemmas.Bool.{cases_Bool}
use Rattle.akl_terms.specs.Template.{AreDistinct, MayStandAt}
use Rattle.akl_terms.specs.declared.term.Node.{Node}
use Rattle.akl_terms.specs.declared.templates.Templates.TheInside.{Inside}
use Rattle.akl_terms.specs.Numbered.{IsNumbered}
use Rattle.akl_terms.proofs.Numbering.{slice_get-front, slice_get-behind, slice_get-one_more}

-- numbered texts are distinct
pub IsNumbered-distinct : (t : Inside) → IsNumbered t → AreDistinct t.symbols.items
IsNumbered-distinct t k = record { one = λ i j text a b. let e : Some i ≡ Some j = sym (k.number text i a) ∙ k.number text j b in cc }

-- each node may stand where it is
pub IsNumbered-stands : (t : Inside) → IsNumbered t → (i : ℕ) (n : Node) → slice_get t.nodes.items i ≡ Some n
    → MayStandAt (record { nodes = t.nodes.items; symbols = t.symbols.items }) i n
IsNumbered-stands t k i (Node.Var x) e = tt
IsNumbered-stands t k i (Node.Int z) e = tt
IsNumbered-stands t k i (Node.Struct s first n) e = (k.arranged.each i (Node.Struct s first n) e, k.named.each i s first n e)

-- a text that the map doesn't have is at no place
pub absent_text : (t : Inside) → IsNumbered t → (text : List ℕ) → get_by_text t.numbers text ≡ None → (n : ℕ) → slice_get t.symbols.items n ≡ Some text → ⊥
absent_text t k text none n e = let o : Some n ≡ None = sym (k.number text n e) ∙ none in cc

-- after a change at a key, a text that is not the key is where it was
other_text : {Y : Type 0} (key : String Y) (m n : BTreeMap (String Y) ℕ) (number : ℕ) → Updates string_cmp m n key (Some number)
    → (text : List ℕ) → ((get_by_text n text ≡ Some number) × (text ≡ string_bytes key)) ⊎ ((get_by_text n text ≡ get_by_text m text) × (text ≡ string_bytes key → ⊥))
other_text key m n number u text =
    let e : get_by_text n text ≡ cond (bytes_eq (string_bytes key) text) (Some number) (get_by_text m text) = btree_map_updates_text (string_bytes key) m n (Some number) u text in
    elim (cases_Bool (bytes_eq (string_bytes key) text)) [
      | inl h ↦ inl (e ∙ ap (λ b. cond b (Some number) (get_by_text m text)) h, sym ((bytes_eq-Decides (string_bytes key) text).0 h))
      | inr h ↦ inr (e ∙ ap (λ b. cond b (Some number) (get_by_text m text)) h, λ same. let b : true ≡ false = sym ((bytes_eq-Decides (string_bytes key) text).1 (sym same)) ∙ h in cc)
    ]

-- with one more text, each number is a place
pub place-more : {Y : Type 0} (symbols : List (List ℕ)) (key : String Y) (m n : BTreeMap (String Y) ℕ) (number : ℕ) → number ≡ length symbols
    → Updates string_cmp m n key (Some number)
    → ((text : List ℕ) (k : ℕ) → get_by_text m text ≡ Some k → slice_get symbols k ≡ Some text)
    → (text : List ℕ) (k : ℕ) → get_by_text n text ≡ Some k → slice_get (symbols ++ string_bytes key ∷ []) k ≡ Some text
place-more symbols key m n number is u old text k e = elim (other_text key m n number u text) [
  | inl h ↦ let same : Some number ≡ Some k = sym h.0 ∙ e in
      let one : number ≡ k = cc in
      let at : k ≡ length symbols = sym one ∙ is in
      ap (slice_get (symbols ++ string_bytes key ∷ [])) at ∙ slice_get-behind symbols (string_bytes key) ∙ ap Some (sym h.1)
  | inr h ↦ slice_get-front symbols (string_bytes key ∷ []) k text (old text k (sym h.0 ∙ e))
]

-- with one more text, each place is the number
pub number-more : {Y : Type 0} (symbols : List (List ℕ)) (key : String Y) (m n : BTreeMap (String Y) ℕ) (number : ℕ) → number ≡ length symbols
    → Updates string_cmp m n key (Some number)
    → ((k : ℕ) → slice_get symbols k ≡ Some (string_bytes key) → ⊥)
    → ((text : List ℕ) (k : ℕ) → slice_get symbols k ≡ Some text → get_by_text m text ≡ Some k)
    → (text : List ℕ) (k : ℕ) → slice_get (symbols ++ string_bytes key ∷ []) k ≡ Some text → get_by_text n text ≡ Some k
number-more symbols key m n number is u absent old text k e = elim (slice_get-one_more symbols (string_bytes key) k text e) [
  | inl h ↦ elim (other_text key m n number u text) [
    | inl o ↦ absurd (absent k (h ∙ ap Some o.1))
    | inr o ↦ o.0 ∙ old text k h
  ]
  | inr h ↦ elim (other_text key m n number u text) [
    | inl o ↦ o.0 ∙ ap Some (is ∙ sym h.0)
    | inr o ↦ absurd (o.1 h.1)
  ]
]

-- templates with one more symbol stay numbered
pub IsNumbered-more : (t u : Inside) (key : String Global) (number : ℕ) → IsNumbered t → u.nodes ≡ t.nodes
    → u.symbols.items ≡ t.symbols.items ++ string_bytes key ∷ [] → number ≡ length t.symbols.items → length t.symbols.items < 4294967295
    → ((k : ℕ) → slice_get t.symbols.items k ≡ Some (string_bytes key) → ⊥) → Updates string_cmp t.numbers u.numbers key (Some number) → IsNumbered u
IsNumbered-more t u key number k nodes symbols is room absent updates = record {
  arranged = rw nodes k.arranged;
  named = record { each = λ i s first count e. let old : s < length t.symbols.items = k.named.each i s first count (rw (← nodes) e) in rw symbols (omega (arith, length-append {A = List ℕ}, old)) };
  nodes_small = rw nodes k.nodes_small;
  symbols_small = rw symbols (omega (arith, length-append {A = List ℕ}, room));
  place = λ text n e. rw symbols (place-more t.symbols.items key t.numbers u.numbers number is updates k.place text n e);
  number = λ text n e. number-more t.symbols.items key t.numbers u.numbers number is updates absent k.number text n (rw (← symbols) e);
}
