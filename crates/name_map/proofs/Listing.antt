-- The names of entries, listed a number and a worker at a time.
use Rattle.std.proofs.Common.{◌≡◌, ℕ, zero, suc, ◌+◌, ◌-◌, ◌*◌, ◌<◌, ◌≤◌, true, false, List, [], ◌∷◌, ◌++◌, length, drop, get_or, Option, Some, None, refl, sym, ap, ◌∙◌, append-nil, append_assoc}
use Rattle.std.proofs.lemmas.List.{at_drop_more, at_drop_all}
use Rattle.std.specs.Prelude.{is_some}
use Rattle.std.specs.Map.{keys_of}
use Rattle.akl_terms.specs.declared.name.Name.{Name}
use Rattle.name_map.specs.declared.numbers.Numbers.{Numbers}
use Rattle.name_map.specs.Pages.{in_numbers, with_value, listed, entries_from}

module _ {V : Type 0} where
  -- the names of those that follow come last
  keys_value : (o : Option V) (w k : ℕ) (es : List (Name × V)) → keys_of (with_value o w k es) ≡ keys_of (with_value o w k []) ++ keys_of es
  keys_value None w k es = refl
  keys_value (Some v) w k es = refl

  keys_before : (w k n : ℕ) (f : ℕ → Option V) (es : List (Name × V)) → keys_of (listed w k n f es) ≡ keys_of (listed w k n f []) ++ keys_of es
  keys_before w k zero f es = refl
  keys_before w k (suc n) f es =
      let one : List Name = keys_of (with_value (f k) w k []) in
      let rest : List Name = keys_of (listed w (k + 1) n f []) in
      keys_value (f k) w k (listed w (k + 1) n f es) ∙ ap (λ (ns : List Name). one ++ ns) (keys_before w (k + 1) n f es)
      ∙ sym (append_assoc one rest (keys_of es)) ∙ ap (λ (ns : List Name). ns ++ keys_of es) (sym (keys_value (f k) w k (listed w (k + 1) n f [])))

  key_there : (o : Option V) (w k : ℕ) (n : Name) (es : List (Name × V)) → is_some o ≡ true → n ≡ record { worker = w; number = k } → keys_of (with_value o w k es) ≡ n ∷ keys_of es
  key_there None w k n es e is = absurd (cc)
  key_there (Some v) w k n es e is = ap (λ (m : Name). m ∷ keys_of es) (sym is)

  key_missing : (o : Option V) (w k : ℕ) (es : List (Name × V)) → is_some o ≡ false → keys_of (with_value o w k es) ≡ keys_of es
  key_missing None w k es e = refl
  key_missing (Some v) w k es e = absurd (cc)

  module _ (w k left : ℕ) (f : ℕ → Option V) (many : left ≡ suc (left - 1)) where
    -- the number that comes next has a value
    pub number_named : (old new : List Name) (n : Name) → is_some (f k) ≡ true → n ≡ record { worker = w; number = k } → new ≡ old ++ n ∷ []
        → new ++ keys_of (listed w (k + 1) (left - 1) f []) ≡ old ++ keys_of (listed w k left f [])
    number_named old new n there is more =
        let rest : List (Name × V) = listed w (k + 1) (left - 1) f [] in
        ap (λ (ns : List Name). ns ++ keys_of rest) more ∙ append_assoc old (n ∷ []) (keys_of rest)
        ∙ ap (λ (ns : List Name). old ++ ns) (sym (ap (λ (m : ℕ). keys_of (listed w k m f [])) many ∙ key_there (f k) w k n rest there is))

    -- it has none
    pub number_passed : (old : List Name) → is_some (f k) ≡ false → old ++ keys_of (listed w (k + 1) (left - 1) f []) ≡ old ++ keys_of (listed w k left f [])
    number_passed old missing = ap (λ (ns : List Name). old ++ ns) (sym (ap (λ (m : ℕ). keys_of (listed w k m f [])) many ∙ key_missing (f k) w k (listed w (k + 1) (left - 1) f []) missing))

  -- no number is left
  pub numbers_listed : (w k left : ℕ) (f : ℕ → Option V) (old : List Name) → left ≡ 0 → old ++ keys_of (listed w k left f []) ≡ old
  numbers_listed w k left f old none = ap (λ (m : ℕ). old ++ keys_of (listed w k m f [])) none ∙ append-nil old

  -- the names of one worker come
  pub worker_named : (workers : List (Numbers V)) (i : ℕ) (x : Numbers V) (old new : List Name) → i < length workers → x ≡ get_or workers i x
      → new ≡ old ++ keys_of (listed i 0 (length x.chunks.items * 512) (λ n. in_numbers n x) [])
      → new ++ keys_of (entries_from (i + 1) (drop (i + 1) workers)) ≡ old ++ keys_of (entries_from i (drop i workers))
  worker_named workers i x old new h is more =
      let rest : List (Name × V) = entries_from (i + 1) (drop (i + 1) workers) in
      let own : List Name = keys_of (listed i 0 (length x.chunks.items * 512) (λ n. in_numbers n x) []) in
      ap (λ (ns : List Name). ns ++ keys_of rest) more ∙ append_assoc old own (keys_of rest)
      ∙ ap (λ (ns : List Name). old ++ ns) (sym (keys_before i 0 (length x.chunks.items * 512) (λ n. in_numbers n x) rest)
      ∙ ap (λ (y : Numbers V). keys_of (entries_from i (y ∷ drop (i + 1) workers))) is ∙ sym (at_drop_more (λ (ws : List (Numbers V)). keys_of (entries_from i ws)) workers i x h))

  -- no worker is left
  pub workers_listed : (workers : List (Numbers V)) (i : ℕ) (old : List Name) → length workers ≤ i → old ++ keys_of (entries_from i (drop i workers)) ≡ old
  workers_listed workers i old h = at_drop_all (λ (ws : List (Numbers V)). old ++ keys_of (entries_from i ws)) workers i h ∙ append-nil old
