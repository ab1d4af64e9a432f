-- What a plan lists isn't bound since, by marks.
use Rattle.std.proofs.Common.{◌≡◌, ℕ, ◌≤◌, ◌<◌, List, [], ◌∷◌, ◌++◌, length, Some, None, refl, sym, ◌∙◌, subst, inl, inr, arith}
use Rattle.std.specs.Prelude.{slice_index}
use Rattle.akl_terms.specs.declared.name.Name.{Name}
use Rattle.akl_terms.specs.declared.name.Var.{Var}
use Rattle.akl_terms.specs.declared.name.Place.{Place}
use Rattle.akl_terms.specs.declared.program.Program.{Program}
use Rattle.akl_terms.specs.declared.program.Query.{Query}
use Rattle.constraint_laws.specs.Touched.{IsAmong}
use Rattle.constraint_laws.proofs.SameTerms.{Either, nat_or}
use Rattle.akl_model.specs.declared.item.Item.{Item}
use Rattle.akl_model.specs.declared.label.Rule.{Rule}
use Rattle.akl_model.specs.declared.label.Label.{Label}
use Rattle.akl_model.specs.Config.{Config, Found, whole, box_at}
use Rattle.akl_model.specs.Changes.{Binds, by_binding, Changes}
use Rattle.akl_model.specs.Derivations.{Derives, Replays}
use Rattle.akl_model.specs.Names.{times_in}
use Rattle.akl_model.specs.Renaming.{names_of}
use Rattle.akl_model.proofs.Finds.{times, times-names}
use Rattle.akl_model.proofs.Orders.{lt_or}
use Rattle.step_laws.specs.Bound.{AreBoundIn}
use Rattle.step_laws.specs.Likeness.{IsOld}
use Rattle.step_laws.specs.Stays.{GoesOn}
use Rattle.step_laws.proofs.Whereabouts.{found_in}
use Rattle.plan_laws.specs.Right.{NoneBy}
use Rattle.plan_laws.proofs.Right.{fresh, next_same}
use Rattle.plan_laws.proofs.InScope.{Good}
use Rattle.plan_laws.proofs.Replayed.{good_replay, replay_further}
use Rattle.reading_laws.specs.ListedMarks.{AreOf, NoneOf}
use Rattle.reading_laws.specs.Marks.{IsMark}
use Rattle.reading_laws.specs.Unchanged.{Unchanged}
use Rattle.reading_laws.proofs.ListedEnds.{in_scope_counted, bound_frame, listed_ends}
use Rattle.reading_laws.proofs.Marked.{marks}
use Rattle.reading_laws.proofs.Untouched.{good_later}

old_or : (c : Config) (k : Name) → Either (IsOld c k)
old_or c k = elim (lt_or k.number (slice_index c.next k.worker)) [
  | inl h ↦ inl h
  | inr h ↦ inr (λ o. elim h [ inl e ↦ omega (arith, o, e) | inr i ↦ omega (arith, o, i) ])
]

-- those of a list that were there
module _ (c : Config) where
  with_old : (x : Var) → Either (IsOld c x.frame) → List Var → List Var
  with_old x (inl o) xs = x ∷ xs
  with_old x (inr n) xs = xs

  old_ones : List Var → List Var
  old_ones [] = []
  old_ones (x ∷ xs) = with_old x (old_or c x.frame) (old_ones xs)

  old_within : (list : List Var) (x : Var) → IsAmong x (old_ones list) → IsAmong x list × IsOld c x.frame
  unfolding old_ones with_old
  old_within [] x i = absurd i
  old_within (y ∷ ys) x i = on (old_or c y.frame) i (λ j. old_within ys x j)
    where
      on : (e : Either (IsOld c y.frame)) → IsAmong x (with_old y e (old_ones ys)) → (IsAmong x (old_ones ys) → IsAmong x ys × IsOld c x.frame) → IsAmong x (y ∷ ys) × IsOld c x.frame
      on (inl o) (inl e) f = (inl e, subst (λ (u : Var). IsOld c u.frame) (sym e) o)
      on (inl o) (inr j) f = (inr (f j).0, (f j).1)
      on (inr n) j f = (inr (f j).0, (f j).1)

  old_all : (list : List Var) (x : Var) → IsAmong x list → IsOld c x.frame → IsAmong x (old_ones list)
  unfolding old_ones with_old
  old_all [] x i o = absurd i
  old_all (y ∷ ys) x i o = on (old_or c y.frame) i (λ j. old_all ys x j o)
    where
      on : (e : Either (IsOld c y.frame)) → IsAmong x (y ∷ ys) → (IsAmong x ys → IsAmong x (old_ones ys)) → IsAmong x (with_old y e (old_ones ys))
      on (inl z) (inl e) f = inl e
      on (inl z) (inr j) f = inr (f j)
      on (inr n) (inl e) f = absurd (n (subst (λ (u : Var). IsOld c u.frame) e o))
      on (inr n) (inr j) f = f j

-- a label of a worker
abbrev of_worker : ℕ → Label
of_worker worker = record { rule = Rule.Fork; place = Place.Goal (record { worker = worker; number = 0 }); alternative = None; worker = worker }

none_by : (worker : ℕ) (ls : List Label) → NoneOf worker ls → NoneBy (of_worker worker) ls
none_by worker [] n = tt
none_by worker (l ∷ ls) n = (n.0, none_by worker ls n.1)

-- a variable that labels bind is of a frame that stands somewhere then
bound_counted : (c d : Config) → Good d → (n : Name) (x : Var) → Binds c d n x → 0 < times x.frame d.roots
bound_counted c d w n x b = in_scope_counted x.frame b.adds.afterwards.around b.adds.afterwards.content b.adds.afterwards.goals d.roots (found_in n d.roots b.adds.afterwards b.adds.is)
    (bound_frame d w n b.adds.afterwards b.adds.is (whole b.adds.before) x b.newly_bound)

-- one of a frame that a worker has still to draw isn't bound by the labels of others
undrawn : (rules : List Rule) (p : Program) (q : Query) (journal : List Label) (c : Config) (ls : List Label) (d : Config) → Replays rules p q journal c → (w : Derives rules p c ls d)
    → (x : Var) → NoneOf x.frame.worker ls → slice_index c.next x.frame.worker ≤ x.frame.number → Unchanged rules p c ls d w (Item.Binding x)
undrawn rules p q journal c [] d r w x n h = tt
undrawn rules p q journal c (l ∷ ls) d r w x n h = (none, undrawn rules p q (journal ++ l ∷ []) w.0 ls d r1 w.2 x n.1 (subst (λ (k : ℕ). k ≤ x.frame.number) (sym first.0) h))
  where
    r1 : Replays rules p q (journal ++ l ∷ []) w.0
    r1 = replay_further rules p q journal c l w.0 r w.1

    first : (slice_index w.0.next x.frame.worker ≡ slice_index c.next x.frame.worker) × ((k : Name) → k.worker ≡ x.frame.worker → slice_index c.next x.frame.worker ≤ k.number → times_in k (names_of w.0.roots) ≡ 0)
    first = fresh rules p c (l ∷ []) w.0 (record { query = q; journal = journal; replays = r; derives = (w.0, w.1, refl) }) (of_worker x.frame.worker) (n.0, tt)

    none : Changes by_binding c w.0 (Item.Binding x) → ⊥
    none (m, b) =
        let a : 0 < times x.frame w.0.roots = bound_counted c w.0 (good_replay rules p q (journal ++ l ∷ []) w.0 r1) m x b in
        let e : times_in x.frame (names_of w.0.roots) ≡ times x.frame w.0.roots = times-names x.frame w.0.roots in
        let z : times_in x.frame (names_of w.0.roots) ≡ 0 = first.1 x.frame refl h in
        omega (arith, a, e, z)

module _ (rules : List Rule) (p : Program) (q : Query) (journal : List Label) (c : Config) (worker : ℕ) (own : List Label) (e : Config) (r : Replays rules p q journal c) (v : Derives rules p c own e) (by_one : AreOf worker own)
    (f : Found) (here : box_at f.content.name c.roots ≡ Some f) (list : List Var) (bound : AreBoundIn c e f list) (further : List Label) (d : Config) (w : Derives rules p c further d) (none : NoneOf worker further)
    (read : (x : Var) → IsAmong x list → IsOld c x.frame → (k : ℕ) × IsMark rules p q (journal ++ further) x k × (k ≤ length journal)) where
  run : GoesOn rules p c own e
  run = record { query = q; journal = journal; replays = r; derives = v }

  -- those that were there
  old_unchanged : (x : Var) → IsAmong x (old_ones c list) → Unchanged rules p c further d w (Item.Binding x)
  old_unchanged = (marks rules p q journal further c d r w (old_ones c list) (λ x i. (old_within c list x i).1)
      (listed_ends rules p q journal c own e r v f here list bound (old_ones c list) (λ x i. (old_within c list x i).0) (old_all c list))
      (λ x i. read x (old_within c list x i).0 (old_within c list x i).1)).0

  -- the others are of frames that the plan's worker draws
  others_none : (x : Var) (ls : List Label) → AreOf worker ls → (x.frame.worker ≡ worker → ⊥) → NoneBy (of_worker x.frame.worker) ls
  others_none x [] o n = tt
  others_none x (l ∷ ls) o n = (λ q. n (q ∙ o.0), others_none x ls o.1 n)

  its_worker : (x : Var) → IsAmong x list → (IsOld c x.frame → ⊥) → x.frame.worker ≡ worker
  its_worker x i n = elim (nat_or x.frame.worker worker) [ inl s ↦ s | inr s ↦ absurd (n (was_old s)) ]
    where
      was_old : (x.frame.worker ≡ worker → ⊥) → IsOld c x.frame
      was_old s =
          let good : Good e = good_later rules p c own e run in
          let a : 0 < times x.frame e.roots = bound_counted c e good f.content.name x (bound.each x i) in
          let b : x.frame.number < slice_index e.next x.frame.worker = good.stand.below x.frame a in
          let k : slice_index e.next x.frame.worker ≡ slice_index c.next x.frame.worker = next_same rules p c (of_worker x.frame.worker) own e (good_replay rules p q journal c r).stand v (others_none x own by_one s) in
          omega (arith, b, k)

  new_unchanged : (x : Var) → IsAmong x list → (IsOld c x.frame → ⊥) → Unchanged rules p c further d w (Item.Binding x)
  new_unchanged x i n = undrawn rules p q journal c further d r w x (subst (λ (k : ℕ). NoneOf k further) (sym (its_worker x i n)) none) undrawn_yet
    where
      undrawn_yet : slice_index c.next x.frame.worker ≤ x.frame.number
      undrawn_yet = elim (lt_or x.frame.number (slice_index c.next x.frame.worker)) [ inl h ↦ absurd (n h) | inr h ↦ elim h [ inl s ↦ omega (arith, s) | inr s ↦ omega (arith, s) ] ]

  pub listed_unchanged : (x : Var) → IsAmong x list → Unchanged rules p c further d w (Item.Binding x)
  listed_unchanged x i = elim (old_or c x.frame) [ inl o ↦ old_unchanged x (old_all c list x i o) | inr n ↦ new_unchanged x i n ]
