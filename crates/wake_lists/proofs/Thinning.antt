-- One line of tokens, when an entry is added, or entries that aren't current are taken out.
use Rattle.std.proofs.Common.{◌≡◌, ℕ, ◌+◌, ◌<◌, ◌≤◌, Bool, true, false, List, [], ◌∷◌, ◌++◌, Option, Some, None, option_copied, Bor, refl, sym, ap, ◌∙◌, arith}
use Rattle.std.proofs.lemmas.Bool.Decides.{nat_tests}
use Rattle.std.specs.Prelude.{cond, ◌||◌, IsSome}
use Rattle.std.specs.Option.{option_to_list}
use Rattle.std.specs.List.{filter}
use Rattle.wake_lists.specs.declared.line.Entry.{Entry}
use Rattle.wake_lists.specs.Lines.{is_entry, stands_at, IsRising, IsThinned}
use Rattle.wake_lists.proofs.Leading.{not_both}

rising_lower : (k low : ℕ) (es : List Entry) (high : ℕ) → k ≤ low → IsRising low es high → IsRising k es high
rising_lower k low [] high h r = omega arith
rising_lower k low (e ∷ es) high h r = (omega arith, r.1)

pub rising_higher : (low : ℕ) (es : List Entry) (high top : ℕ) → high ≤ top → IsRising low es high → IsRising low es top
rising_higher low [] high top h r = omega arith
rising_higher low (e ∷ es) high top h r = (r.0, rising_higher (e.number + 1) es high top h r.1)

pub rising_more : (low : ℕ) (es : List Entry) (high : ℕ) (e : Entry) → e.number ≡ high → IsRising low es high → IsRising low (es ++ e ∷ []) (high + 1)
rising_more low [] high e h r = (omega arith, omega arith)
rising_more low (d ∷ es) high e h r = (r.0, rising_more (d.number + 1) es high e h r.1)

rising_before : (low : ℕ) (es : List Entry) (e : Entry) (high : ℕ) → IsRising low (es ++ e ∷ []) high → IsRising low es high
rising_before low [] e high r = omega arith
rising_before low (d ∷ es) e high r = (r.0, rising_before (d.number + 1) es e high r.1)

bounds : (low : ℕ) (es : List Entry) (high : ℕ) → IsRising low es high → low ≤ high
bounds low [] high r = r
bounds low (e ∷ es) high r = let rest : e.number + 1 ≤ high = bounds (e.number + 1) es high r.1 in omega arith

pub entry_is : (n t : ℕ) (e : Entry) → is_entry n t e ≡ true → (n ≡ e.number) × (t ≡ e.token)
entry_is n t e h = (grind (arith, nat_tests), grind (arith, nat_tests))

pub entry_here : (n t : ℕ) → is_entry n t (record { number = n; token = t }) ≡ true
entry_here n t = grind (arith, nat_tests)

-- an entry of a line has a number within its bounds
pub within : (low : ℕ) (es : List Entry) (high n t : ℕ) → IsRising low es high → stands_at es n t ≡ true → (low ≤ n) × (n < high)
within low [] high n t r h = absurd (cc)
within low (e ∷ es) high n t r h = on (is_entry n t e) refl h (within (e.number + 1) es high n t r.1)
  where
    on : (b : Bool) → is_entry n t e ≡ b → (b || stands_at es n t) ≡ true → (stands_at es n t ≡ true → (e.number + 1 ≤ n) × (n < high)) → (low ≤ n) × (n < high)
    on true f g rest =
        let same : n ≡ e.number = (entry_is n t e f).0 in
        let top : e.number + 1 ≤ high = bounds (e.number + 1) es high r.1 in
        (omega arith, omega arith)
    on false f g rest = let later = rest g in (omega arith, later.1)

module _ (es ds : List Entry) (n t : ℕ) where
  pub stands_before : stands_at es n t ≡ true → stands_at (es ++ ds) n t ≡ true
  stands_before = by es
    where
      by : (es : List Entry) → stands_at es n t ≡ true → stands_at (es ++ ds) n t ≡ true
      by [] h = absurd (cc)
      by (e ∷ es) h = on (is_entry n t e) h (by es)
        where
          on : (b : Bool) → (b || stands_at es n t) ≡ true → (stands_at es n t ≡ true → stands_at (es ++ ds) n t ≡ true) → (b || stands_at (es ++ ds) n t) ≡ true
          on true h rest = refl
          on false h rest = rest h

pub stands_last : (es : List Entry) (n t : ℕ) → stands_at (es ++ record { number = n; token = t } ∷ []) n t ≡ true
stands_last [] n t = λ i. entry_here n t i || false
stands_last (e ∷ es) n t = ap (λ (b : Bool). is_entry n t e || b) (stands_last es n t) ∙ either (is_entry n t e)
  where
    either : (b : Bool) → (b || true) ≡ true
    either true = refl
    either false = refl

module _ (current : Entry → Bool) where
  pub thinned_same : (es : List Entry) → IsThinned current es es
  thinned_same es = record { kept = λ n t c h. h; rising = λ low high r. r }

  pub thinned_then : (es fs ds : List Entry) → IsThinned current es fs → IsThinned current fs ds → IsThinned current es ds
  thinned_then es fs ds p q = record {
    kept = λ n t c h. q.kept n t c (p.kept n t c h);
    rising = λ low high r. q.rising low high (p.rising low high r);
  }

  -- one that is current is another one than one that isn't
  apart : (n t : ℕ) (e : Entry) → current (record { number = n; token = t }) ≡ true → current e ≡ false → (b : Bool) → is_entry n t e ≡ b → b ≡ false
  apart n t e c d false f = refl
  apart n t e c d true f =
      let is = entry_is n t e f in
      not_both (current e) (sym (λ i. current (record { number = is.0 i; token = is.1 i })) ∙ c) d

  pub thinned_front : (e : Entry) (es : List Entry) → current e ≡ false → IsThinned current (e ∷ es) es
  thinned_front e es d = record {
    kept = λ n t c h. sym (λ i. apart n t e c d (is_entry n t e) refl i || stands_at es n t) ∙ h;
    rising = λ low high r. rising_lower low (e.number + 1) es high (omega arith) r.1;
  }

  pub thinned_back : (es : List Entry) (e : Entry) → current e ≡ false → IsThinned current (es ++ e ∷ []) es
  thinned_back es e d = record {
    kept = λ n t c. by n t (apart n t e c d (is_entry n t e) refl) es;
    rising = λ low high r. rising_before low es e high r;
  }
    where
      by : (n t : ℕ) → is_entry n t e ≡ false → (es : List Entry) → stands_at (es ++ e ∷ []) n t ≡ true → stands_at es n t ≡ true
      by n t f [] h = sym (λ i. f i || false) ∙ h
      by n t f (d ∷ es) h = on (is_entry n t d) h (by n t f es)
        where
          on : (b : Bool) → (b || stands_at (es ++ e ∷ []) n t) ≡ true → (stands_at (es ++ e ∷ []) n t ≡ true → stands_at es n t ≡ true) → (b || stands_at es n t) ≡ true
          on true h rest = refl
          on false h rest = rest h

  rising_filter : (low : ℕ) (es : List Entry) (high : ℕ) → IsRising low es high → IsRising low (filter current es) high
  rising_filter low [] high r = r
  rising_filter low (e ∷ es) high r = on (current e) (rising_filter (e.number + 1) es high r.1)
    where
      on : (b : Bool) → IsRising (e.number + 1) (filter current es) high → IsRising low (cond b (e ∷ filter current es) (filter current es)) high
      on true rest = (r.0, rest)
      on false rest = rising_lower low (e.number + 1) (filter current es) high (omega arith) rest

  pub thinned_filter : (es : List Entry) → IsThinned current es (filter current es)
  thinned_filter es = record {
    kept = λ n t c. by n t c es;
    rising = λ low high r. rising_filter low es high r;
  }
    where
      by : (n t : ℕ) → current (record { number = n; token = t }) ≡ true → (es : List Entry) → stands_at es n t ≡ true → stands_at (filter current es) n t ≡ true
      by n t c [] h = h
      by n t c (e ∷ es) h = on (current e) refl (is_entry n t e) refl h (by n t c es)
        where
          on : (d : Bool) → current e ≡ d → (b : Bool) → is_entry n t e ≡ b → (b || stands_at es n t) ≡ true → (stands_at es n t ≡ true → stands_at (filter current es) n t ≡ true)
              → stands_at (cond d (e ∷ filter current es) (filter current es)) n t ≡ true
          on true f true g h rest = λ i. g i || stands_at (filter current es) n t
          on true f false g h rest = (λ i. g i || stands_at (filter current es) n t) ∙ rest h
          on false f true g h rest = not_both true refl (apart n t e c f true g)
          on false f false g h rest = rest h

-- an end that was copied was there
pub copied_some : (r : Option (Bor Entry)) (e : Entry) → option_copied r ≡ Some e → IsSome r
copied_some None e h = absurd (cc)
copied_some (Some x) e h = refl

pub taken_off : (o : Option Entry) (x e : Entry) → o ≡ Some x → e ≡ x → option_to_list o ≡ e ∷ []
taken_off o x e f g = ap option_to_list f ∙ ap (λ (y : Entry). y ∷ []) (sym g)
