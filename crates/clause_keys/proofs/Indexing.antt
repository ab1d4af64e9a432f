-- How the index grows.
use Rattle.std.proofs.Common.{◌≡◌, ◌<◌, ℕ, List, [], ◌∷◌, ◌++◌, length, Option, Some, None, ◌⊎◌, inl, inr, refl, sym, ap, subst, ◌∙◌, Bool, true, false, cond, Ordering, Less, Equal, Greater, arith, length-append}
use Rattle.std.specs.Prelude.{slice_get, IfSome, IfNone}
use Rattle.std.specs.Ordering.{nat_cmp, is_eq}
use Rattle.std.proofs.lemmas.Map.Lookups.{exact_pairs, exact_unsigned}
use Rattle.std.specs.BTreeMap.{get, Updates, is_at}
use Rattle.akl_terms.specs.Template.{Template, AreDistinct, Interns, known, appended}
use Rattle.clause_keys.specs.declared.callee.Callee.{Callee}
use Rattle.clause_keys.specs.declared.callee.Callee.TheVariants.{Named, Lifted, Collecting}
use Rattle.clause_keys.specs.declared.callees.Callees.TheInside.{Inside}
use Rattle.clause_keys.specs.Keys.{named, IsAbsent}
use Rattle.clause_keys.specs.Indexed.{pair_cmp, IsEntry, IsPlace, IsMapOf, IsIndexed}
use Rattle.clause_keys.proofs.Places.{get_front, get_last, get_split}

-- ---- symbols
pub still_named : {old new : Template} {text : List ℕ} {k : ℕ} → Interns old new text k → (i : ℕ) (s : List ℕ) → slice_get old.symbols i ≡ Some s → slice_get new.symbols i ≡ Some s
still_named (known e f) i s g = rw f g
still_named {old} {new} {text} (appended a f) i s g = rw f.symbols (get_front old.symbols (text ∷ []) i s g)

pub is_named : {old new : Template} {text : List ℕ} {k : ℕ} → Interns old new text k → slice_get new.symbols k ≡ Some text
is_named (known e f) = rw f e
is_named {old} {new} {text} (appended a f) = rw (f.symbols, f.next) (get_last old.symbols text)

pub interned_distinct : {old new : Template} {text : List ℕ} {k : ℕ} → AreDistinct old.symbols → Interns old new text k → AreDistinct new.symbols
interned_distinct d (known e f) = rw f d
interned_distinct d (appended a f) = f.distinct

pub some_injective : {X : Type 0} {x y : X} → Some x ≡ Some y → x ≡ y
some_injective e = cc

-- ---- only the symbols have grown
pub IsIndexed-symbols : (t u : Inside) → IsIndexed t → ((i : ℕ) (s : List ℕ) → slice_get t.symbols.symbols i ≡ Some s → slice_get u.symbols.symbols i ≡ Some s)
    → u.list.items ≡ t.list.items → u.named.entries ≡ t.named.entries → u.lifted.entries ≡ t.lifted.entries → u.collecting.entries ≡ t.collecting.entries → IsIndexed u
IsIndexed-symbols t u h grown list names lifted collecting = record {
  small = rw list h.small;
  place = λ k n d e. (
      let p : IsPlace t k n d = h.place k n d (rw (← names) e) in
      record { text = p.text; symbol_is = grown k p.text p.symbol_is; there = rw list p.there });
  entry = λ s n d e. (
      let p : (k : ℕ) × IsEntry t s n k d = h.entry s n d (rw (← list) e) in
      (p.0, record { symbol_is = grown p.0 s p.1.symbol_is; entry = rw names p.1.entry }));
  lifted = record { place = λ m n d e. rw list (h.lifted.place m n d (rw (← lifted) e)); entry = λ m n d e. rw lifted (h.lifted.entry m n d (rw (← list) e)) };
  collecting = record { place = λ m n d e. rw list (h.collecting.place m n d (rw (← collecting) e)); entry = λ m n d e. rw collecting (h.collecting.entry m n d (rw (← list) e)) };
}

-- ---- the maps, with one entry more
is_equal : (o : Ordering) → is_eq o ≡ true → o ≡ Equal
is_equal Less e = absurd cc
is_equal Equal e = refl
is_equal Greater e = absurd cc

pair_at : (x y : ℕ × ℕ) → is_at (pair_cmp x) y ≡ true → x ≡ y
pair_at x y e = exact_pairs nat_cmp nat_cmp exact_unsigned exact_unsigned x y (is_equal (pair_cmp x y) e)

-- what a map has at a key after one more entry: the new value at an equal key, or what it had
more_at : (b : Bool) (d v : ℕ) (old : Option ℕ) → cond b (Some d) old ≡ Some v → ((b ≡ true) × (d ≡ v)) ⊎ ((b ≡ false) × (old ≡ Some v))
more_at true d v old e = inl (refl, cc)
more_at false d v old e = inr (refl, e)

not_both : (b : Bool) → (b ≡ true → ⊥) → b ≡ false
not_both true f = absurd (f refl)
not_both false f = refl

-- ---- one map, with a callee more behind the list
-- one of another kind
behind_other : (kind : ℕ → ℕ → Callee) (find : ℕ × ℕ → Option ℕ) (list : List Callee) (c : Callee) → ((m n : ℕ) → c ≡ kind m n → ⊥) → IsMapOf kind find list → IsMapOf kind find (list ++ c ∷ [])
behind_other kind find list c other h = record {
  place = λ m n d e. get_front list (c ∷ []) d (kind m n) (h.place m n d e);
  entry = λ m n d e. elim (get_split list c (kind m n) d e) [ inl f ↦ h.entry m n d f | inr f ↦ absurd (other m n f.1) ];
}

-- one of this kind, which gets an entry
module _ (kind : ℕ → ℕ → Callee) (same : (a b m n : ℕ) → kind a b ≡ kind m n → (a ≡ m) × (b ≡ n)) (find more : ℕ × ℕ → Option ℕ) (list : List Callee) (number arity : ℕ) (absent : IsAbsent list (kind number arity))
    (at : (k : ℕ × ℕ) → more k ≡ cond (is_at (pair_cmp (number, arity)) k) (Some (length list)) (find k)) (own : more (number, arity) ≡ Some (length list))
    (rest : (k : ℕ × ℕ) → is_at (pair_cmp (number, arity)) k ≡ false → more k ≡ find k) (h : IsMapOf kind find list) where
  place_of : (m n d : ℕ) → ((is_at (pair_cmp (number, arity)) (m, n) ≡ true) × (length list ≡ d)) ⊎ ((is_at (pair_cmp (number, arity)) (m, n) ≡ false) × (find (m, n) ≡ Some d))
      → slice_get (list ++ kind number arity ∷ []) d ≡ Some (kind m n)
  place_of m n d (inl e) =
      let here : (number, arity) ≡ (m, n) = pair_at (number, arity) (m, n) e.0 in
      subst (λ (x : ℕ × ℕ). slice_get (list ++ kind number arity ∷ []) d ≡ Some (kind x.0 x.1)) here (subst (λ (z : ℕ). slice_get (list ++ kind number arity ∷ []) z ≡ Some (kind number arity)) e.1 (get_last list (kind number arity)))
  place_of m n d (inr e) = get_front list (kind number arity ∷ []) d (kind m n) (h.place m n d e.1)

  entry_of : (m n d : ℕ) → (slice_get list d ≡ Some (kind m n)) ⊎ ((d ≡ length list) × (kind number arity ≡ kind m n)) → more (m, n) ≡ Some d
  entry_of m n d (inl e) =
      rest (m, n) (not_both (is_at (pair_cmp (number, arity)) (m, n)) (λ b. absent.absent d (subst (λ (x : ℕ × ℕ). slice_get list d ≡ Some (kind x.0 x.1)) (sym (pair_at (number, arity) (m, n) b)) e)))
      ∙ h.entry m n d e
  entry_of m n d (inr e) =
      let these = same number arity m n e.1 in
      ap (λ (z : ℕ). more (z, n)) (sym these.0) ∙ ap (λ (z : ℕ). more (number, z)) (sym these.1) ∙ own ∙ ap Some (sym e.0)

  behind_own : IsMapOf kind more (list ++ kind number arity ∷ [])
  behind_own = record {
    place = λ m n d e. place_of m n d (more_at (is_at (pair_cmp (number, arity)) (m, n)) (length list) d (find (m, n)) (sym (at (m, n)) ∙ e));
    entry = λ m n d e. entry_of m n d (get_split list (kind number arity) (kind m n) d e);
  }

-- ---- a symbol with its number of arguments is the next
module _ (t u : Inside) (text : List ℕ) (arity k : ℕ) (h : IsIndexed t) (symbols : Interns t.symbols u.symbols text k) (distinct : AreDistinct u.symbols.symbols)
    (list : u.list.items ≡ t.list.items ++ named text arity ∷ []) (updates : Updates pair_cmp t.named u.named (k, arity) (Some (length t.list.items)))
    (lifted : u.lifted ≡ t.lifted) (collecting : u.collecting ≡ t.collecting) (room : length t.list.items < 4294967295) (absent : IsAbsent t.list.items (named text arity)) where
  still_there : (d : ℕ) (c : Callee) → slice_get t.list.items d ≡ Some c → slice_get u.list.items d ≡ Some c
  still_there d c e = rw list (get_front t.list.items (named text arity ∷ []) d c e)

  new_there : slice_get u.list.items (length t.list.items) ≡ Some (named text arity)
  new_there = rw list (get_last t.list.items (named text arity))

  place_from : (symbol n d : ℕ) → ((is_at (pair_cmp (k, arity)) (symbol, n) ≡ true) × (length t.list.items ≡ d)) ⊎ ((is_at (pair_cmp (k, arity)) (symbol, n) ≡ false) × (get pair_cmp t.named (symbol, n) ≡ Some d)) → IsPlace u symbol n d
  place_from symbol n d (inl e) =
      let same : (k, arity) ≡ (symbol, n) = pair_at (k, arity) (symbol, n) e.0 in
      subst (λ (x : ℕ × ℕ). IsPlace u x.0 x.1 d) same (record { text = text; symbol_is = is_named symbols; there = subst (λ (z : ℕ). slice_get u.list.items z ≡ Some (named text arity)) e.1 new_there })
  place_from symbol n d (inr e) =
      let p : IsPlace t symbol n d = h.place symbol n d e.1 in
      record { text = p.text; symbol_is = still_named symbols symbol p.text p.symbol_is; there = still_there d (named p.text n) p.there }

  entry_from : (s : List ℕ) (n d : ℕ) → (slice_get t.list.items d ≡ Some (named s n)) ⊎ ((d ≡ length t.list.items) × (named text arity ≡ named s n)) → (symbol : ℕ) × IsEntry u s n symbol d
  entry_from s n d (inl e) =
      let p : (symbol : ℕ) × IsEntry t s n symbol d = h.entry s n d e in
      let at_symbol : slice_get u.symbols.symbols p.0 ≡ Some s = still_named symbols p.0 s p.1.symbol_is in
      let differs : is_at (pair_cmp (k, arity)) (p.0, n) ≡ false = not_both (is_at (pair_cmp (k, arity)) (p.0, n)) (λ b. (
      let same : (k, arity) ≡ (p.0, n) = pair_at (k, arity) (p.0, n) b in
      let at_k : slice_get u.symbols.symbols p.0 ≡ Some text = subst (λ (x : ℕ × ℕ). slice_get u.symbols.symbols x.0 ≡ Some text) same (is_named symbols) in
      let texts : s ≡ text = some_injective (sym at_symbol ∙ at_k) in
      let arities : n ≡ arity = sym (ap (λ (x : ℕ × ℕ). x.1) same) in
      absent.absent d (subst (λ (z : List ℕ). slice_get t.list.items d ≡ Some (named z arity)) texts (subst (λ (z : ℕ). slice_get t.list.items d ≡ Some (named s z)) arities e)))) in
      (p.0, record { symbol_is = at_symbol; entry = updates.2 (p.0, n) differs ∙ p.1.entry })
  entry_from s n d (inr e) =
      let at_new : IsEntry u text arity k d = record { symbol_is = is_named symbols; entry = subst (λ (z : ℕ). get pair_cmp u.named (k, arity) ≡ Some z) (sym e.0) updates.1 } in
      (k, subst (λ (c : Callee). is_entry_of c d) e.1 at_new)
    where
      is_entry_of : Callee → ℕ → Type 0
      is_entry_of (Named key) z = IsEntry u key.symbol key.arity k z
      is_entry_of (Lifted m n) z = ⊥
      is_entry_of (Collecting m n) z = ⊥

  pub IsIndexed-named : IsIndexed u
  IsIndexed-named = record {
    small = rw list (omega (arith, length-append {A = Callee}, room));
    place = λ symbol n d e. place_from symbol n d (more_at (is_at (pair_cmp (k, arity)) (symbol, n)) (length t.list.items) d (get pair_cmp t.named (symbol, n)) (sym (updates.0 (symbol, n)) ∙ e));
    entry = λ s n d e. entry_from s n d (get_split t.list.items (named text arity) (named s n) d (rw (← list) e));
    lifted = rw (lifted, list) (behind_other Lifted (get pair_cmp t.lifted) t.list.items (named text arity) (λ m n e. absurd cc) h.lifted);
    collecting = rw (collecting, list) (behind_other Collecting (get pair_cmp t.collecting) t.list.items (named text arity) (λ m n e. absurd cc) h.collecting);
  }

-- ---- a lifted definition is the next
module _ (t u : Inside) (c : Callee) (h : IsIndexed t) (unnamed : (s : List ℕ) (n : ℕ) → c ≡ named s n → ⊥) (symbols : u.symbols ≡ t.symbols) (list : u.list.items ≡ t.list.items ++ c ∷ []) (names : u.named ≡ t.named)
    (room : length t.list.items < 4294967295) where
  entry_behind : (s : List ℕ) (n d : ℕ) → (slice_get t.list.items d ≡ Some (named s n)) ⊎ ((d ≡ length t.list.items) × (c ≡ named s n)) → (symbol : ℕ) × IsEntry u s n symbol d
  entry_behind s n d (inl e) =
      let p : (symbol : ℕ) × IsEntry t s n symbol d = h.entry s n d e in
      (p.0, record { symbol_is = rw symbols p.1.symbol_is; entry = rw names p.1.entry })
  entry_behind s n d (inr e) = absurd (unnamed s n e.1)

  indexed_behind : IsMapOf Lifted (get pair_cmp u.lifted) (t.list.items ++ c ∷ []) → IsMapOf Collecting (get pair_cmp u.collecting) (t.list.items ++ c ∷ []) → IsIndexed u
  indexed_behind lifted collecting = record {
    small = rw list (omega (arith, length-append {A = Callee}, room));
    place = λ k n d e. (
        let p : IsPlace t k n d = h.place k n d (rw (← names) e) in
        record { text = p.text; symbol_is = rw symbols p.symbol_is; there = rw list (get_front t.list.items (c ∷ []) d (named p.text n) p.there) });
    entry = λ s n d e. entry_behind s n d (get_split t.list.items c (named s n) d (rw (← list) e));
    lifted = rw list lifted;
    collecting = rw list collecting;
  }

pub IsIndexed-lifted : (t u : Inside) (number arity : ℕ) → IsIndexed t → u.symbols ≡ t.symbols → u.list.items ≡ t.list.items ++ Lifted number arity ∷ [] → u.named ≡ t.named
    → Updates pair_cmp t.lifted u.lifted (number, arity) (Some (length t.list.items)) → u.collecting ≡ t.collecting → length t.list.items < 4294967295 → IsAbsent t.list.items (Lifted number arity) → IsIndexed u
IsIndexed-lifted t u number arity h symbols list names updates others room absent =
    indexed_behind t u (Lifted number arity) h (λ s n e. absurd cc) symbols list names room
    (behind_own Lifted (λ a b m n e. (cc, cc)) (get pair_cmp t.lifted) (get pair_cmp u.lifted) t.list.items number arity absent updates.0 updates.1 updates.2 h.lifted)
    (rw others (behind_other Collecting (get pair_cmp t.collecting) t.list.items (Lifted number arity) (λ m n e. absurd cc) h.collecting))

pub IsIndexed-collecting : (t u : Inside) (number arity : ℕ) → IsIndexed t → u.symbols ≡ t.symbols → u.list.items ≡ t.list.items ++ Collecting number arity ∷ [] → u.named ≡ t.named
    → Updates pair_cmp t.collecting u.collecting (number, arity) (Some (length t.list.items)) → u.lifted ≡ t.lifted → length t.list.items < 4294967295 → IsAbsent t.list.items (Collecting number arity) → IsIndexed u
IsIndexed-collecting t u number arity h symbols list names updates others room absent =
    indexed_behind t u (Collecting number arity) h (λ s n e. absurd cc) symbols list names room
    (rw others (behind_other Lifted (get pair_cmp t.lifted) t.list.items (Collecting number arity) (λ m n e. absurd cc) h.lifted))
    (behind_own Collecting (λ a b m n e. (cc, cc)) (get pair_cmp t.collecting) (get pair_cmp u.collecting) t.list.items number arity absent updates.0 updates.1 updates.2 h.collecting)

-- ---- what is found
pub found_named : (t : Inside) → IsIndexed t → (text : List ℕ) (arity k : ℕ) (found : Option ℕ) → AreDistinct t.symbols.symbols → slice_get t.symbols.symbols k ≡ Some text → get pair_cmp t.named (k, arity) ≡ found
    → IfSome found (λ d. slice_get t.list.items d ≡ Some (named text arity))
found_named t h text arity k None distinct e f = tt
found_named t h text arity k (Some d) distinct e f =
    let p : IsPlace t k arity d = h.place k arity d f in
    subst (λ (z : List ℕ). slice_get t.list.items d ≡ Some (named z arity)) (some_injective (sym p.symbol_is ∙ e)) p.there

module _ {kind : ℕ → ℕ → Callee} {find : ℕ × ℕ → Option ℕ} {list : List Callee} (h : IsMapOf kind find list) (number arity : ℕ) where
  pub found_of : (found : Option ℕ) → find (number, arity) ≡ found → IfSome found (λ d. slice_get list d ≡ Some (kind number arity))
  found_of None f = tt
  found_of (Some d) f = h.place number arity d f

  pub absent_of : (found : Option ℕ) → find (number, arity) ≡ found → IfNone found (IsAbsent list (kind number arity))
  absent_of None f = record { absent = λ d e. (let g : None ≡ Some d = sym f ∙ h.entry number arity d e in cc) }
  absent_of (Some d) f = tt
