-- A list that has its ends, of which no label binds one where it is an end, has them still.
use Rattle.std.proofs.Common.{◌≡◌, ◌+◌, ◌≤◌, ◌<◌, List, [], ◌∷◌, ◌++◌, map, Some, refl, sym, ◌∙◌, ap, subst, ◌⊎◌, inl, inr, arith, append-nil, true}
use Rattle.std.specs.Prelude.{slice_index}
use Rattle.akl_terms.specs.declared.name.Name.{Name}
use Rattle.akl_terms.specs.declared.name.Var.{Var}
use Rattle.akl_terms.specs.declared.program.Program.{Program}
use Rattle.akl_terms.specs.declared.program.Query.{Query}
use Rattle.akl_terms.specs.Names.{same_name}
use Rattle.akl_terms.specs.Tree.{variable}
use Rattle.akl_terms.specs.Equal.{Equations, Equal, same, turned, joined, Follows, IsConsistent, IsStructured}
use Rattle.akl_terms.specs.Touching.{IsLocal}
use Rattle.akl_terms.proofs.SameNames.{same_name-equal}
use Rattle.akl_terms.proofs.EqualLaws.{Equal-follows, IsConsistent-follows}
use Rattle.constraint_laws.proofs.AliasLists.{newly_bound_with}
use Rattle.constraint_laws.proofs.LeastVariables.{oldest_of}
use Rattle.constraint_laws.specs.Touched.{IsAmong}
use Rattle.constraint_laws.specs.Oldest.{IsOldest}
use Rattle.constraint_laws.proofs.Decided.{kept_by, equal_or}
use Rattle.constraint_laws.proofs.Grown.{over_kept}
use Rattle.akl_model.specs.declared.item.Item.{Item}
use Rattle.akl_model.specs.declared.label.Rule.{Rule}
use Rattle.akl_model.specs.declared.label.Label.{Label}
use Rattle.akl_model.specs.Config.{Content, box, Goals, no_boxes, Config, Found, equations_of, whole, box_at}
use Rattle.akl_model.specs.Changes.{Binds, by_binding, Changes}
use Rattle.akl_model.specs.Derivations.{Applies, Derives, Replays}
use Rattle.akl_model.specs.Stable.{only, frames_inside}
use Rattle.akl_model.proofs.Drawn.{drawn_times}
use Rattle.akl_model.proofs.Finds.{times}
use Rattle.akl_model.proofs.NamesKept.{Stand, box-itself}
use Rattle.akl_model.proofs.NextNumbers.{next_least}
use Rattle.akl_model.proofs.Options.{some_value}
use Rattle.akl_model.proofs.Scoped.{IsIn-left}
use Rattle.akl_model.proofs.ScopesAlong.{times_path, local_in, frames_counted}
use Rattle.step_laws.specs.Bound.{outermost_equations}
use Rattle.step_laws.specs.Likeness.{IsOld}
use Rattle.step_laws.specs.Whereabouts.{BoxIn, Stands}
use Rattle.step_laws.proofs.Becomes.{AllDrawn, Becomes}
use Rattle.step_laws.proofs.Deeper.{in_deeper, one_box}
use Rattle.step_laws.proofs.Edits.{AfterEdit, outside, replaced}
use Rattle.step_laws.proofs.Steps as steps
use Rattle.step_laws.proofs.Steps.{Moved, aside, at_site, inside, names_kept, name_kept}
use Rattle.step_laws.proofs.Whereabouts.{found_in, in_found, in_counted}
use Rattle.plan_laws.proofs.InScope.{Good}
use Rattle.plan_laws.proofs.Moves.{moved}
use Rattle.reading_laws.specs.Unchanged.{Unchanged, path_to, frames_along}
use Rattle.reading_laws.specs.Ends.{IsEndAt, SparesEnd, HasEnds}
use Rattle.plan_laws.proofs.Replayed.{good_replay, replay_further}
use Rattle.reading_laws.proofs.Labels.{whole_over, step_follows}
use Rattle.reading_laws.proofs.Outermost.{HasFirst, first_box}
use Rattle.reading_laws.proofs.RootsAlong.{first_found, first_follows, first_outermost}

-- each box is of drawn names throughout, or was there and moved
module _ (rules : List Rule) (p : Program) (c : Config) (l : Label) (d : Config) (s : Stand c) (m : Applies rules p c l d) where
  abbrev Result : Found → Type 0
  Result g = AllDrawn l.worker (slice_index c.next l.worker) m.change.drawn g.content g.goals ⊎ ((f : Found) × Stands f c.roots × Moved l.worker (slice_index c.next l.worker) m.site m.change f g)

  pub drawn_or : (g : Found) → Stands g d.roots → Result g
  drawn_or g x = on (steps.after_edit rules p c l d s m g x)
    where
      in_new : (a rest : List Content) → a ≡ m.site.around → g.around ≡ a ++ rest → (b : Becomes l.worker (slice_index c.next l.worker) m.site m.change)
          → BoxIn rest g.content g.goals (box b.content b.goals b.rest) → Result g
      in_new a rest q e b (inl y) = inr (m.site, steps.site_stands rules p c l d s m, at_site b refl (λ i. record { around = path i; content = y.1 i; goals = y.2 i }))
        where
          path : g.around ≡ m.site.around
          path = e ∙ ap (λ (r : List Content). a ++ r) y.0 ∙ append-nil a ∙ q
      in_new a rest q e b (inr (inl (more, r, y))) = elim (b.inner more g.content g.goals y) [
        | inl h ↦ inl h
        | inr h ↦ inr (
          record { around = m.site.around ++ m.site.content ∷ more; content = g.content; goals = g.goals },
          in_deeper m.site.around m.site.content m.site.goals more g.content g.goals c.roots (steps.site_stands rules p c l d s m) h,
          inside b (record g { around = more }) h y refl (λ i. record { around = path i; content = g.content; goals = g.goals }),
        )
      ]
        where
          path : g.around ≡ m.site.around ++ b.content ∷ more
          path = e ∙ (λ i. q i ++ r i)
      in_new a rest q e b (inr (inr y)) = inl (λ n.
          let u : times n (box g.content g.goals no_boxes) + times_path n rest ≤ times n b.rest = in_counted n rest g.content g.goals b.rest y in
          let v : times n b.rest ≤ drawn_times n l.worker (slice_index c.next l.worker) m.change.drawn = b.copied n in
          omega arith)

      on : AfterEdit m.site.content.name m.change.boxes (λ a b gs. BoxIn a b gs c.roots) g.around g.content g.goals → Result g
      on (outside gs y n e) = inr (record g { goals = gs }, y, aside (record { around = refl; content = refl; goals = e; apart = n }))
      on (replaced a b gs rest y n e z) = elim (steps.made rules p c l d s m) [
        | inl q ↦ absurd (subst (BoxIn rest g.content g.goals) q.1 z)
        | inr v ↦ in_new a rest (ap (λ (k : Found). k.around) (the_site a b gs y n)) e v.0 (subst (BoxIn rest g.content g.goals) v.0.is_change z)
      ]
        where
          the_site : (a : List Content) (b : Content) (gs : Goals) → BoxIn a b gs c.roots → same_name m.site.content.name b.name ≡ true → record { around = a; content = b; goals = gs } ≡ m.site
          the_site a b gs x n = one_box c.roots s.once (record { around = a; content = b; goals = gs }) m.site x (steps.site_stands rules p c l d s m) (sym (same_name-equal m.site.content.name b.name n))

-- no boxes around one, by their names
pub none_around : (xs : List Content) → map (λ (b : Content). b.name) xs ≡ [] → xs ≡ []
none_around [] e = refl
none_around (x ∷ xs) e = cc

-- one label, which binds none of a list where it is an end
module _ (rules : List Rule) (p : Program) (q : Query) (journal : List Label) (c : Config) (l : Label) (d : Config) (r : Replays rules p q journal c) (a : Applies rules p c l d)
    (list : List Var) (old : (x : Var) → IsAmong x list → IsOld c x.frame) (ends : HasEnds c list) (spares : (x : Var) → IsAmong x list → (n : Name) → IsEndAt c n x → Binds c d n x → ⊥) where
  w : Good c
  w = good_replay rules p q journal c r

  v : Good d
  v = good_replay rules p q (journal ++ l ∷ []) d (replay_further rules p q journal c l d r a)

  -- then it binds none of it: with a variable it would bind the oldest one that is equal to it by the outermost box's equations
  pub unbound : (x : Var) → IsAmong x list → Changes by_binding c d (Item.Binding x) → ⊥
  unbound x m (n, b) = spares least.0 (ends.each root.content.name (first_found root) root.found refl still x least.0 m free least.1) n end_here binds_least
    where
      root : HasFirst c b.adds.before
      root = first_box c w n b.adds.before b.adds.was

      grown : Follows (whole b.adds.before) (whole b.adds.afterwards)
      grown = step_follows rules p c l d w v a n b.adds.before b.adds.afterwards b.adds.was b.adds.is

      follows : Follows root.content.equations (whole b.adds.before)
      follows = first_follows c b.adds.before root

      still : IsConsistent root.content.equations
      still = IsConsistent-follows follows (IsConsistent-follows grown b.consistent)

      free : IsStructured root.content.equations x → ⊥
      free s = b.newly_bound.unstructured (s.0, s.1, Equal-follows follows s.2, s.3)

      least : (y : Var) × IsOldest root.content.equations x y
      least = oldest_of root.content.equations x

      end_here : IsEndAt c n least.0
      end_here = record {
        each = λ f i h. inr (subst (λ (E : Equations). IsOldest E least.0 least.0) (sym (ap outermost_equations (some_value (sym i ∙ b.adds.was)) ∙ first_outermost c b.adds.before root))
            (record { equal = same; oldest = λ y e. least.1.oldest y (joined least.1.equal e) }));
      }

      binds_least : Binds c d n least.0
      binds_least = record {
        adds = b.adds;
        consistent = b.consistent;
        newly_bound = newly_bound_with (whole b.adds.before) (whole b.adds.afterwards) grown x least.0 (turned (Equal-follows follows least.1.equal)) b.newly_bound;
      }

  -- so the list has its ends still
  module _ (x : Var) (m : IsAmong x list) where
    was_equal : (n : Name) (f g : Found) → box_at n c.roots ≡ Some f → f.around ≡ [] → box_at n d.roots ≡ Some g → IsConsistent (whole g) → (IsStructured (whole g) x → ⊥) → (y : Var) → Equal (whole g) (variable x) (variable y)
        → Equal (whole f) (variable x) (variable y)
    was_equal n f g e first i h free y k = elim (equal_or (whole f) (variable x) (variable y)) [ inl z ↦ z | inr z ↦ absurd (apart z) ]
      where
        grows : Follows (whole f) (whole g)
        grows = step_follows rules p c l d w v a n f g e i

        around : g.around ≡ []
        around = none_around g.around (names_kept l.worker (slice_index c.next l.worker) a.site a.change f g (moved rules p c l d w v a n f g e i) ∙ ap (map (λ (b : Content). b.name)) first)

        no_more : g.content.equations ≡ f.content.equations → whole g ≡ whole f
        no_more s = λ j. equations_of ((around ∙ sym first) j) ++ s j

        apart : (Equal (whole f) (variable x) (variable y) → ⊥) → ⊥
        apart z = unbound x m (
          n,
          record {
            adds = record { before = f; afterwards = g; was = e; is = i; more = λ s. z (subst (λ (E : Equations). Equal E (variable x) (variable y)) (no_more s) k) };
            consistent = h;
            newly_bound = record { unstructured = λ s. free (s.0, s.1, Equal-follows grows s.2, s.3); told = inr (y, k, z) };
          },
        )

    -- in a new root box it is equal to no other one
    new_root : (n : Name) (g : Found) → box_at n d.roots ≡ Some g → g.around ≡ [] → AllDrawn l.worker (slice_index c.next l.worker) a.change.drawn g.content g.goals → (y : Var) → Equal (whole g) (variable x) (variable y) → x ≡ y
    new_root n g i root h y k = elim (kept_by (over_kept (IsLocal (frames_along (path_to g))) (whole g) (whole_over d v n g i)) k) [ inl z ↦ variable_same z | inr z ↦ absurd (foreign z.0) ]
      where
        variable_same : {y : Var} → variable x ≡ variable y → x ≡ y
        variable_same z = cc

        frames : frames_along (path_to g) ≡ g.content.frames
        frames = ap (λ (xs : List Content). frames_along (xs ++ g.content ∷ [])) root ∙ append-nil g.content.frames

        foreign : IsLocal (frames_along (path_to g)) x → ⊥
        foreign k =
            let z : 0 < times x.frame (only g) = frames_counted x.frame (only g) (IsIn-left x.frame g.content.frames (frames_inside g.goals ++ []) (local_in g.content.frames x (subst (λ (fs : List Name). IsLocal fs x) frames k))) in
            let y : times x.frame (box g.content g.goals no_boxes) ≤ drawn_times x.frame l.worker (slice_index c.next l.worker) a.change.drawn = h x.frame in
            steps.not_old rules p c l d w.stand a x.frame (omega arith) (old x m)

    pub still_old : IsOld d x.frame
    still_old = let z : slice_index c.next x.frame.worker ≤ slice_index d.next x.frame.worker = next_least rules p c l d a x.frame.worker in let y : x.frame.number < slice_index c.next x.frame.worker = old x m in omega (arith, z, y)

  pub still_ends : HasEnds d list
  still_ends = record {
    each = λ n g i root h x y m free o. elim (drawn_or rules p c l d w.stand a g (found_in n d.roots g i)) [
      | inl z ↦ subst (λ (k : Var). IsAmong k list) (new_root x m n g i root z y o.equal) m
      | inr (f, z, k) ↦
          let e : box_at n c.roots ≡ Some f =
          subst (λ (m : Name). box_at m c.roots ≡ Some f) (sym (name_kept l.worker (slice_index c.next l.worker) a.site a.change f g k) ∙ sym (box-itself n d.roots g i)) (in_found c.roots f w.stand.once z) in
          let first : f.around ≡ [] = none_around f.around (sym (names_kept l.worker (slice_index c.next l.worker) a.site a.change f g k) ∙ ap (map (λ (b : Content). b.name)) root) in
          let grows : Follows (whole f) (whole g) = step_follows rules p c l d w v a n f g e i in
          ends.each n f e first (IsConsistent-follows grows h) x y m (λ s. free (s.0, s.1, Equal-follows grows s.2, s.3))
          (record { equal = was_equal x m n f g e first i h free y o.equal; oldest = λ u q. o.oldest u (Equal-follows grows q) })
    ];
  }

pub spared : (rules : List Rule) (p : Program) (q : Query) (journal : List Label) (c : Config) (ls : List Label) (d : Config) → Replays rules p q journal c → (w : Derives rules p c ls d)
    → (list : List Var) → ((x : Var) → IsAmong x list → IsOld c x.frame) → HasEnds c list → ((x : Var) → IsAmong x list → SparesEnd rules p c ls d w x)
    → ((x : Var) → IsAmong x list → Unchanged rules p c ls d w (Item.Binding x)) × HasEnds d list
spared rules p q journal c [] d r w list old ends u = (λ x m. tt, subst (λ (k : Config). HasEnds k list) w ends)
spared rules p q journal c (l ∷ ls) d r w list old ends u =
    let one : (x : Var) → IsAmong x list → (n : Name) → IsEndAt c n x → Binds c w.0 n x → ⊥ = λ x m. (u x m).0 in
    let further : ((x : Var) → IsAmong x list → Unchanged rules p w.0 ls d w.2 (Item.Binding x)) × HasEnds d list =
    spared rules p q (journal ++ l ∷ []) w.0 ls d (replay_further rules p q journal c l w.0 r w.1) w.2 list (λ x m. still_old rules p q journal c l w.0 r w.1 list old ends one x m)
    (still_ends rules p q journal c l w.0 r w.1 list old ends one) (λ x m. (u x m).1) in
    (λ x m. (unbound rules p q journal c l w.0 r w.1 list old ends one x m, further.0 x m), further.1)
