-- How histories go on.
use Rattle.std.proofs.Common.{◌≡◌, ◌≢◌, ℕ, ◌+◌, ◌<◌, ◌≤◌, Bool, true, false, cond, ltb, List, [], ◌∷◌, ◌++◌, All, length, sym, refl, ap, ◌∙◌, subst, arith, append_assoc, append-nil}
use Rattle.std.proofs.lemmas.List.{append_cancel_left}
use Rattle.std.proofs.lemmas.List.Elements.{All-nil, All-cons, All-append, All-weaker}
use Rattle.turn_lock.specs.Histories.{GoesOnBy, GoesOnWithout, longer}
use Rattle.turn_lock.proofs.Places.{All-right, same_tail}

module _ {E : Type 0} (maker : E → ℕ) where
  -- a history goes on from itself
  pub goes_on-refl : (p : ℕ) (log : List E) → GoesOnWithout maker p log log
  goes_on-refl p log = ([], sym (append-nil log), All-nil (λ e. maker e ≢ p))

  -- entries of another maker follow
  pub goes_on-append : (p q : ℕ) (seen log more : List E) → p ≢ q → All (λ e. maker e ≡ q) more → GoesOnWithout maker p seen log → GoesOnWithout maker p seen (log ++ more)
  goes_on-append p q seen log more ne of h = (
    h.0 ++ more,
    ap (λ l. l ++ more) h.1 ∙ append_assoc seen h.0 more,
    All-append (λ e. maker e ≢ p) h.0 more h.2 (All-weaker (λ e. maker e ≡ q) (λ e. maker e ≢ p) (λ x is not. ne (sym not ∙ is)) more of),
  )

  -- an entry of one's own is pushed, or not
  pub goes_on_by-push : (p : ℕ) (pushed : Bool) (seen log after : List E) (e : E) → after ≡ cond pushed (log ++ e ∷ []) log → seen ≡ log → maker e ≡ p → GoesOnBy maker p seen after
  goes_on_by-push p true seen log after e is same made = (e ∷ [], is ∙ ap (λ l. l ++ e ∷ []) (sym same), All-cons (λ x. maker x ≡ p) e [] made (All-nil (λ x. maker x ≡ p)))
  goes_on_by-push p false seen log after e is same made = ([], is ∙ sym same ∙ sym (append-nil seen), All-nil (λ x. maker x ≡ p))

  -- a longer beginning of the same history will do as well
  pub goes_on-from_longer : (p : ℕ) (xs ys more log : List E) → length xs ≤ length ys → log ≡ ys ++ more → GoesOnWithout maker p xs log → GoesOnWithout maker p ys log
  goes_on-from_longer p [] ys more log le is h = (more, is, All-right (λ e. maker e ≢ p) ys more (subst (All (λ e. maker e ≢ p)) (sym h.1 ∙ is) h.2))
  goes_on-from_longer p (x ∷ xs) [] more log le is h = absurd (omega arith)
  goes_on-from_longer p (x ∷ xs) (y ∷ ys) more log le is h =
      let t = goes_on-from_longer p xs ys more (ys ++ more) (omega arith) refl (h.0, same_tail y x (ys ++ more) (xs ++ h.0) (sym is ∙ h.1), h.2) in
      (t.0, is ∙ ap (λ l. y ∷ l) t.1, t.2)

  -- of two beginnings of one history the longer will do for both
  pub goes_on-longer : (p q : ℕ) (xs ys log : List E) → GoesOnWithout maker p xs log → GoesOnWithout maker q ys log → GoesOnWithout maker p (longer xs ys) log × GoesOnWithout maker q (longer xs ys) log
  goes_on-longer p q xs ys log g h = at_test (ltb (length xs) (length ys)) refl
    where
      at_test : (b : Bool) → ltb (length xs) (length ys) ≡ b → GoesOnWithout maker p (cond b ys xs) log × GoesOnWithout maker q (cond b ys xs) log
      at_test true less = (goes_on-from_longer p xs ys h.0 log (grind (arith, less)) h.1 g, h)
      at_test false not = (g, goes_on-from_longer q ys xs g.0 log (grind (arith, not)) g.1 h)

  -- no entry was made by a pass that is still to come
  pub goes_on-newcomer : (made : ℕ) (seen log : List E) → All (λ e. maker e ≤ made) log → (p : ℕ) → GoesOnWithout maker p seen log → GoesOnWithout maker (made + 1) seen log
  goes_on-newcomer made seen log makers p h = (
    h.0,
    h.1,
    All-weaker (λ e. maker e ≤ made) (λ e. maker e ≢ made + 1) (λ x le is. let le' : maker x ≤ made = le in let is' : maker x ≡ made + 1 = is in omega arith) h.0 (All-right (λ e. maker e ≤ made) seen h.0 (subst (All (λ e. maker e ≤ made)) h.1 makers)),
  )

  none_left : (made : ℕ) (seen log more : List E) → All (λ e. maker e ≤ made) log → log ≡ seen ++ more → All (λ e. maker e ≢ 0) more → ((p : ℕ) → 0 < p → p ≤ made → GoesOnWithout maker p seen log) → more ≡ []
  none_left made seen log [] makers is not_first others = refl
  none_left made seen log (x ∷ xs) makers is not_first others =
      let all = All-right (λ e. maker e ≤ made) seen (x ∷ xs) (subst (All (λ e. maker e ≤ made)) is makers) in
      let le : maker x ≤ made = all 0 x (omega arith) in
      let ne : maker x ≢ 0 = not_first 0 x (omega arith) in
      let h = others (maker x) (omega arith) le in
      let same : x ∷ xs ≡ h.0 = append_cancel_left seen (x ∷ xs) h.0 (sym is ∙ h.1) in
      absurd ((subst (All (λ e. maker e ≢ maker x)) (sym same) h.2) 0 x (omega arith) refl)

  -- where no maker has an entry past what was seen, all was seen
  pub all_seen : (made : ℕ) (seen log : List E) → All (λ e. maker e ≤ made) log → GoesOnWithout maker 0 seen log → ((p : ℕ) → 0 < p → p ≤ made → GoesOnWithout maker p seen log) → log ≡ seen
  all_seen made seen log makers first others = first.1 ∙ ap (λ l. seen ++ l) (none_left made seen log first.0 makers first.1 first.2 others) ∙ append-nil seen
