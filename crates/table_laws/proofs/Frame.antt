-- Rows of boxes that a label leaves.
use Rattle.std.proofs.Common.{◌≡◌, ◌+◌, ◌≤◌, List, [], ◌∷◌, ◌++◌, map, Bool, true, false, Option, Some, None, refl, sym, ◌∙◌, ap, subst, ◌⊎◌, inl, inr, arith, append_assoc}
use Rattle.std.specs.Prelude.{slice_index}
use Rattle.akl_terms.specs.declared.name.Name.{Name}
use Rattle.akl_terms.specs.declared.term.Node.{Node}
use Rattle.akl_terms.specs.declared.program.Program.{Program}
use Rattle.akl_terms.specs.declared.program.Query.{Query}
use Rattle.akl_terms.specs.Equal.{Equations, IsTold}
use Rattle.akl_terms.specs.Standing.{StandFor}
use Rattle.akl_terms.specs.Names.{same_name}
use Rattle.akl_terms.proofs.SameNames.{same_name-refl, same_name-equal}
use Rattle.akl_model.specs.declared.label.Rule.{Rule}
use Rattle.akl_model.specs.declared.label.Label.{Label}
use Rattle.akl_model.specs.Config.{IsIn, Content, no_boxes, box, Config, Found, box_at, equations_of, environment, whole}
use Rattle.akl_model.specs.Derivations.{Applies, Replays}
use Rattle.akl_model.specs.Wakes.{names_around, names_down_to, holder_in}
use Rattle.akl_model.specs.Names.{one_if}
use Rattle.akl_model.proofs.Finds.{times}
use Rattle.akl_model.proofs.Scoped.{IsIn-left, IsIn-right, IsIn-either}
use Rattle.akl_model.proofs.NamesKept.{Stand, replay-stands, stands_after, box-itself}
use Rattle.akl_model.proofs.Options.{some_value}
use Rattle.akl_model.proofs.ScopesAlong.{times_path}
use Rattle.constraint_laws.proofs.StandsGrow.{same_told_stands}
use Rattle.local_store.specs.Chained.{IsSolvedChain}
use Rattle.rational_unify.specs.Solving.{bindings_in}
use Rattle.step_laws.specs.Whereabouts.{Stands}
use Rattle.step_laws.specs.Holders.{IsHeldBy}
use Rattle.step_laws.specs.Likeness.{IsLike}
use Rattle.step_laws.proofs.Whereabouts.{found_in, in_found, home_in, in_counted}
use Rattle.step_laws.proofs.Becomes.{Becomes}
use Rattle.step_laws.proofs.Deeper.{in_path}
use Rattle.step_laws.proofs.Steps.{site_now, site_stands, site_there, found, later_step}
use Rattle.step_laws.proofs.Stays.{like_box}
use Rattle.step_laws.proofs.ChangedItems.{frame, frame_names}
use Rattle.step_laws.proofs.Holders.{held_or}
use Rattle.table_laws.specs.Rows.{BoxRow, Table, store_in, stores_along, told_in, ports_in}
use Rattle.table_laws.specs.Unfolds.{FailsBy, UnchangedSince, StaysSolved, IsBoxRow, AreBoth, Unfolds}
use Rattle.table_laws.proofs.Sets.{other_by}
use Rattle.table_laws.proofs.Stores.{told_along, told_parts, told_last, IsAsTold, same_stores, unchanged_before, unchanged_at, grown}
use Rattle.table_laws.proofs.Along.{holder_stays, IsUnder, along, named_path, site_apart, around_there}
use Rattle.plan_laws.proofs.Moves.{equations-append}

-- what is under a name in both

pub both_there : {A B : Type 0} (P : A → B → Type 0) (x : Option A) (y : Option B) (a : A) → AreBoth P x y → x ≡ Some a → (b : B) × (y ≡ Some b) × P a b
both_there P None None a h e = cc
both_there P None (Some b) a h e = cc
both_there P (Some z) None a h e = absurd h
both_there P (Some z) (Some b) a h e = (b, refl, subst (λ (k : _). P k b) (some_value e) h)

pub both_back : {A B : Type 0} (P : A → B → Type 0) (x : Option A) (y : Option B) (b : B) → AreBoth P x y → y ≡ Some b → (a : A) × (x ≡ Some a) × P a b
both_back P None None b h e = cc
both_back P None (Some z) b h e = absurd h
both_back P (Some a) None b h e = cc
both_back P (Some a) (Some z) b h e = (a, refl, subst (P a) (some_value e) h)

pub neither : {A B : Type 0} (P : A → B → Type 0) (x : Option A) (y : Option B) → AreBoth P x y → x ≡ None → y ≡ None
neither P None None h e = refl
neither P None (Some z) h e = absurd h
neither P (Some a) y h e = cc

pub are_both : {A B : Type 0} (P : A → B → Type 0) (x : Option A) (y : Option B) (a : A) (b : B) → x ≡ Some a → y ≡ Some b → P a b → AreBoth P x y
are_both P x y a b e f h = subst (λ (k : Option _). AreBoth P k y) (sym e) (subst (AreBoth P (Some a)) (sym f) h)

pub are_neither : {A B : Type 0} (P : A → B → Type 0) (x : Option A) (y : Option B) → x ≡ None → y ≡ None → AreBoth P x y
are_neither P x y e f = subst (λ (k : Option _). AreBoth P k y) (sym e) (subst (AreBoth P None) (sym f) tt)

pub row_of : (T : Table) (c : Config) → Unfolds T c → (n : Name) (e : Found) → box_at n c.roots ≡ Some e → (r : BoxRow) × (T.box_of n ≡ Some r) × IsBoxRow T c.roots e r
row_of T c u n e i = both_there (IsBoxRow T c.roots) (box_at n c.roots) (T.box_of n) e (u.boxes n) i

pub found_of : (T : Table) (c : Config) → Unfolds T c → (n : Name) (r : BoxRow) → T.box_of n ≡ Some r → (e : Found) × (box_at n c.roots ≡ Some e) × IsBoxRow T c.roots e r
found_of T c u n r i = both_back (IsBoxRow T c.roots) (box_at n c.roots) (T.box_of n) r (u.boxes n) i

-- paths of boxes in two parts

pub names_join : (A B : List Content) → map (λ (b : Content). b.name) (A ++ B) ≡ map (λ (b : Content). b.name) A ++ map (λ (b : Content). b.name) B
names_join [] B = refl
names_join (x ∷ A) B = ap (λ (ns : List Name). x.name ∷ ns) (names_join A B)

pub names_split : (f : Found) (A : List Content) (b : Content) (rest : List Content) → f.around ≡ A ++ b ∷ rest
    → names_down_to f ≡ map (λ (k : Content). k.name) A ++ b.name ∷ (map (λ (k : Content). k.name) rest ++ f.content.name ∷ [])
names_split f A b rest e = ap (λ (r : List Content). map (λ (k : Content). k.name) r ++ f.content.name ∷ []) e ∙ ap (λ (ns : List Name). ns ++ f.content.name ∷ []) (names_join A (b ∷ rest))
    ∙ append_assoc (map (λ (k : Content). k.name) A) (b.name ∷ map (λ (k : Content). k.name) rest) (f.content.name ∷ [])

equations_split : (f : Found) (A : List Content) (b : Content) (rest : List Content) → f.around ≡ A ++ b ∷ rest
    → whole f ≡ equations_of A ++ (b.equations ++ (equations_of rest ++ f.content.equations))
equations_split f A b rest e = ap (λ (r : List Content). equations_of r ++ f.content.equations) e ∙ ap (λ (E : Equations). E ++ f.content.equations) (equations-append A (b ∷ rest))
    ∙ append_assoc (equations_of A) (b.equations ++ equations_of rest) f.content.equations ∙ ap (λ (E : Equations). equations_of A ++ E) (append_assoc b.equations (equations_of rest) f.content.equations)

once_among : (A : List Content) (b : Content) (rest : List Content) → times_path b.name (A ++ b ∷ rest) ≤ 1 → IsIn b.name (map (λ (k : Content). k.name) rest) → ⊥
once_among [] b rest h i = let u : one_if (same_name b.name b.name) ≡ 1 = ap one_if (same_name-refl b.name) in named_path b.name rest (omega arith) i
once_among (x ∷ A) b rest h i = once_among A b rest (omega arith) i

-- the stores around a box stand for its environment
pub around_stands : (T : Table) (c : Config) → Stand c → Unfolds T c → (n : Name) (e : Found) → box_at n c.roots ≡ Some e → StandFor (IsTold (told_along T (names_around e))) (IsTold (environment e))
around_stands T c s u n e i = elim (held_or c.roots s.once n e i) [
  | inl r ↦ subst (λ (a : List Content). StandFor (IsTold (told_along T (map (λ (b : Content). b.name) a))) (IsTold (equations_of a))) (sym r.0)
      (same_told_stands [] [] (record { each = λ s t h. h }) (record { each = λ s t h. h }))
  | inr w ↦
      let h : IsHeldBy n w.0 e c.roots = w.2 in
      let x : Stands h.home c.roots = (home_in w.0 c.roots h.home h.is_home).0 in
      let r : (r : BoxRow) × (T.box_of h.home.content.name ≡ Some r) × IsBoxRow T c.roots h.home r = row_of T c u h.home.content.name h.home (in_found c.roots h.home s.once x) in
      subst (λ (ns : List Name). StandFor (IsTold (told_along T ns)) (IsTold (environment e))) (sym h.names)
      (subst (λ (E : Equations). StandFor (IsTold (told_along T (names_down_to h.home))) (IsTold E)) (sym h.equations) r.2.stands)
]

-- a store that was solved is solved where the same is told along the path
pub solved_same : (T U : Table) (e f : Found) (r k : BoxRow) → U.nodes ≡ T.nodes → U.steps ≡ T.steps + 1 → names_around e ≡ names_around f → e.content.name ≡ f.content.name
    → ((n : Name) → IsIn n (names_down_to e) → IsAsTold T U n) → k.solved_at ≡ r.solved_at → StaysSolved T e r → StaysSolved U f k
solved_same T U e f r k nodes steps around name told at s = record {
  within = λ j q. let h : j ≤ T.steps = s.within j (sym at ∙ q) in omega arith;
  solved = λ j q x.
      let y : IsSolvedChain T.nodes (stores_along T (names_down_to e)) =
      s.solved j (sym at ∙ q) (unchanged_before T U j (names_around e) (λ n i. told n (IsIn-left n (names_around e) (e.content.name ∷ []) i)) (subst (UnchangedSince U j) (sym around) x)) in
      subst (λ (ns : List Name). IsSolvedChain U.nodes (stores_along U ns)) (λ i. around i ++ name i ∷ [])
      (subst (λ (nodes : List Node). IsSolvedChain nodes (stores_along U (names_down_to e))) (sym nodes)
      (subst (IsSolvedChain T.nodes) (sym (same_stores T U (names_down_to e) (λ n i. (told n i).store))) y));
}

-- a table that goes on, with the same rows of boxes that stay but that of the label's place: they may fail by another goal
pub record KeepsRows {rules : List Rule} {p : Program} {c : Config} {l : Label} {d : Config} (a : Applies rules p c l d) (T U : Table) : Type 0 where
  pub nodes : U.nodes ≡ T.nodes
  pub steps : U.steps ≡ T.steps + 1
  pub rows : (n : Name) (e f : Found) (r : BoxRow) → same_name a.site.content.name n ≡ false → box_at n c.roots ≡ Some e → box_at n d.roots ≡ Some f → T.box_of n ≡ Some r
      → (o : Option Name) × (U.box_of n ≡ Some (record r { failing = o })) × FailsBy f.goals o

-- and the row of the box of the place, where it stays: its store is the same, or was changed by this label
pub record KeepsBoxes {rules : List Rule} {p : Program} {c : Config} {l : Label} {d : Config} (a : Applies rules p c l d) (T U : Table) : Type 0 where
  pub keeps : KeepsRows a T U
  pub site : (f : Found) → box_at a.site.content.name d.roots ≡ Some f → (r : BoxRow) × (U.box_of a.site.content.name ≡ Some r) × IsBoxRow U d.roots f r
      × (IsAsTold T U a.site.content.name ⊎ (r.changed ≡ T.steps + 1))

module _ (rules : List Rule) (p : Program) (q : Query) (journal : List Label) (c : Config) (l : Label) (d : Config) (replays : Replays rules p q journal c) (a : Applies rules p c l d)
    (T U : Table) (u : Unfolds T c) where
  s : Stand c
  s = replay-stands rules p q journal c replays

  t : Stand d
  t = stands_after rules p c l d s a

  alike : (e f : Found) → Stands e c.roots → Stands f d.roots → e.content.name ≡ f.content.name → IsLike e f
  alike e f x y q = like_box c d s t (later_step rules p c l d s a) e f x y q

  -- a box that stays and isn't that of the place
  as_told : KeepsRows a T U → (m : Name) → same_name a.site.content.name m ≡ false → (e : Found) × (box_at m c.roots ≡ Some e) → (f : Found) × (box_at m d.roots ≡ Some f) → IsAsTold T U m
  as_told k m apart (e, i) (f, j) =
      let w : (r : BoxRow) × (T.box_of m ≡ Some r) × IsBoxRow T c.roots e r = row_of T c u m e i in
      let v : (o : Option Name) × (U.box_of m ≡ Some (record w.0 { failing = o })) × FailsBy f.goals o = k.rows m e f w.0 apart i j w.1 in
      record {
        store = ap store_in v.1 ∙ sym (ap store_in w.1);
        changed = λ r e. (record w.0 { failing = v.0 }, v.1, ap (λ (x : BoxRow). x.changed) (some_value (sym w.1 ∙ e)));
      }

  -- the boxes around one that stays
  around_told : KeepsRows a T U → (e f : Found) → Stands e c.roots → Stands f d.roots → names_around e ≡ names_around f → (m : Name) → IsIn m (names_around e) → same_name a.site.content.name m ≡ false → IsAsTold T U m
  around_told k e f x y q m i apart = let w : ((x : Found) × (box_at m c.roots ≡ Some x)) × ((y : Found) × (box_at m d.roots ≡ Some y)) = around_there rules p c l d s a e f x y q m i in as_told k m apart w.0 w.1

  -- around the place
  pub site_around : KeepsRows a T U → (b : Becomes l.worker (slice_index c.next l.worker) a.site a.change) → (m : Name) → IsIn m (names_around a.site) → IsAsTold T U m
  site_around k b m i = around_told k a.site (site_now b) (site_stands rules p c l d s a) (found_in a.site.content.name d.roots (site_now b) (site_there rules p c l d s a b)) refl m i
      (other_by a.site.content.name m (λ e. site_apart rules p c l d s a (subst (λ (z : Name). IsIn z (names_around a.site)) (sym e) i)))

  pub same_told : (ns : List Name) → U.nodes ≡ T.nodes → ((m : Name) → IsIn m ns → IsAsTold T U m) → told_along U ns ≡ told_along T ns
  same_told ns e h = λ i. told_in (e i) (same_stores T U ns (λ m x. (h m x).store) i)

  -- the row of a box that stays, other than that of the place
  pub row_stays : KeepsBoxes a T U → (m : Name) (e f : Found) (r : BoxRow) (o : Option Name) → same_name a.site.content.name m ≡ false → box_at m c.roots ≡ Some e → box_at m d.roots ≡ Some f
      → IsBoxRow T c.roots e r → FailsBy f.goals o → IsBoxRow U d.roots f (record r { failing = o })
  row_stays k m e f r o apart i j row fails = on (along rules p c l d s a e f x y name (subst (λ (z : Name). same_name a.site.content.name z ≡ false) (box-itself m c.roots e i) apart))
    where
      x : Stands e c.roots
      x = found_in m c.roots e i

      y : Stands f d.roots
      y = found_in m d.roots f j

      name : e.content.name ≡ f.content.name
      name = sym (box-itself m c.roots e i) ∙ box-itself m d.roots f j

      like : IsLike e f
      like = alike e f x y name

      other : same_name a.site.content.name e.content.name ≡ false
      other = subst (λ (z : Name). same_name a.site.content.name z ≡ false) (box-itself m c.roots e i) apart

      content : e.content ≡ f.content
      content = (frame rules p c l d s a e f x y name other).0

      own : IsAsTold T U e.content.name
      own = subst (IsAsTold T U) (box-itself m c.roots e i) (as_told k.keeps m apart (e, i) (f, j))

      by : StandFor (IsTold (told_along U (names_down_to f))) (IsTold (whole f)) → StaysSolved U f (record r { failing = o }) → IsBoxRow U d.roots f (record r { failing = o })
      by stands solved = record {
        holder = row.holder ∙ ap (λ (z : Name). holder_in z c.roots) (sym (box-itself m c.roots e i)) ∙ holder_stays rules p q journal c l d replays a m e f i j ∙ ap (λ (z : Name). holder_in z d.roots) (box-itself m d.roots f j);
        frames = row.frames ∙ ap (λ (z : Content). z.frames) content;
        ports = ap (λ (z : List Node). ports_in z r.store.ports) k.keeps.nodes ∙ row.ports ∙ ap (λ (z : Content). z.ports) content;
        stands = stands;
        stays_solved = solved;
        goals = row.goals ∙ frame_names rules p c l d s a e f x y name other;
        failing = fails;
        body = row.body ∙ ap (λ (z : Content). z.body) content;
        shown = row.shown ∙ ap (λ (z : Content). z.shown) content;
        collected = row.collected ∙ ap (λ (z : Content). z.collected) content;
      }

      solved : ((z : Name) → IsIn z (names_around e) → IsAsTold T U z) → StaysSolved U f (record r { failing = o })
      solved told = solved_same T U e f r (record r { failing = o }) k.keeps.nodes k.keeps.steps like.around name (λ z h. elim (IsIn-either z (names_around e) (e.content.name ∷ []) h) [
        | inl v ↦ told z v
        | inr v ↦ elim v [ inl q ↦ subst (IsAsTold T U) (sym q) own | inr q ↦ absurd q ]
      ]) refl row.stays_solved

      -- under the same boxes
      aside : (IsIn a.site.content.name (names_around e) → ⊥) → e.around ≡ f.around → IsBoxRow U d.roots f (record r { failing = o })
      aside none same = by (subst (λ (g : Found). StandFor (IsTold (told_along U (map (λ (b : Content). b.name) g.around ++ g.content.name ∷ []))) (IsTold (equations_of g.around ++ g.content.equations)))
          (λ z. record { around = same z; content = content z; goals = f.goals })
          (subst (λ (E : Equations). StandFor (IsTold E) (IsTold (whole e))) (sym (same_told (names_down_to e) k.keeps.nodes down)) row.stands)) (solved told)
        where
          told : (z : Name) → IsIn z (names_around e) → IsAsTold T U z
          told z h = around_told k.keeps e f x y like.around z h (other_by a.site.content.name z (λ q. none (subst (λ (v : Name). IsIn v (names_around e)) (sym q) h)))

          down : (z : Name) → IsIn z (names_down_to e) → IsAsTold T U z
          down z h = elim (IsIn-either z (names_around e) (e.content.name ∷ []) h) [
            | inl v ↦ told z v
            | inr v ↦ elim v [ inl q ↦ subst (IsAsTold T U) (sym q) own | inr q ↦ absurd q ]
          ]

      -- in the box of the place
      within : IsUnder l.worker (slice_index c.next l.worker) a.site a.change e f → IsBoxRow U d.roots f (record r { failing = o })
      within w = by stands (elim now.3 [ inl h ↦ solved (λ z v. each h z v (same_name a.site.content.name z) refl) | inr h ↦ again h ])
        where
          now : (v : BoxRow) × (U.box_of a.site.content.name ≡ Some v) × IsBoxRow U d.roots (site_now w.becomes) v × (IsAsTold T U a.site.content.name ⊎ (v.changed ≡ T.steps + 1))
          now = k.site (site_now w.becomes) (site_there rules p c l d s a w.becomes)

          in_around : IsIn a.site.content.name (names_around e)
          in_around = subst (λ (z : List Content). IsIn a.site.content.name (map (λ (v : Content). v.name) z)) (sym w.was) (in_path a.site.around a.site.content w.rest)

          each : IsAsTold T U a.site.content.name → (z : Name) → IsIn z (names_around e) → (v : Bool) → same_name a.site.content.name z ≡ v → IsAsTold T U z
          each h z v true q = subst (IsAsTold T U) (same_name-equal a.site.content.name z q) h
          each h z v false q = around_told k.keeps e f x y like.around z v q

          again : now.0.changed ≡ T.steps + 1 → StaysSolved U f (record r { failing = o })
          again h = record {
            within = λ z v. let g : z ≤ T.steps = row.stays_solved.within z v in let steps : U.steps ≡ T.steps + 1 = k.keeps.steps in omega arith;
            solved = λ z v g.
                let late : now.0.changed ≤ z = unchanged_at U z (names_around f) a.site.content.name now.0 g (subst (IsIn a.site.content.name) like.around in_around) now.1 in
                let early : z ≤ T.steps = row.stays_solved.within z v in
                let number : now.0.changed ≡ T.steps + 1 = h in
                absurd (omega arith);
          }

          -- the boxes between the place and this one
          between : (z : Name) → IsIn z (map (λ (v : Content). v.name) w.rest ++ e.content.name ∷ []) → IsAsTold T U z
          between z h = elim (IsIn-either z (map (λ (v : Content). v.name) w.rest) (e.content.name ∷ []) h) [
            | inl v ↦ around_told k.keeps e f x y like.around z (inner v) (other_by a.site.content.name z (λ g. once_among a.site.around a.site.content w.rest counted (subst (λ (m : Name). IsIn m (map (λ (v : Content). v.name) w.rest)) (sym g) v)))
            | inr v ↦ elim v [ inl g ↦ subst (IsAsTold T U) (sym g) own | inr g ↦ absurd g ]
          ]
            where
              inner : IsIn z (map (λ (v : Content). v.name) w.rest) → IsIn z (names_around e)
              inner v = subst (λ (ms : List Name). IsIn z ms) (sym (ap (map (λ (v : Content). v.name)) w.was ∙ names_join a.site.around (a.site.content ∷ w.rest)))
                  (IsIn-right z (names_around a.site) (a.site.content.name ∷ map (λ (v : Content). v.name) w.rest) (inr v))

              counted : times_path a.site.content.name (a.site.around ++ a.site.content ∷ w.rest) ≤ 1
              counted =
                  let v : times a.site.content.name (box e.content e.goals no_boxes) + times_path a.site.content.name e.around ≤ times a.site.content.name c.roots = in_counted a.site.content.name e.around e.content e.goals c.roots x in
                  let g : times a.site.content.name c.roots ≤ 1 = s.once a.site.content.name in
                  let h : times_path a.site.content.name e.around ≡ times_path a.site.content.name (a.site.around ++ a.site.content ∷ w.rest) = ap (times_path a.site.content.name) w.was in
                  omega arith

          at_around : told_along U (names_around a.site) ≡ told_along T (names_around a.site)
          at_around = same_told (names_around a.site) k.keeps.nodes (site_around k.keeps w.becomes)

          was : StandFor (IsTold (told_along T (names_around a.site) ++ bindings_in T.nodes (store_in (T.box_of a.site.content.name)).bindings)) (IsTold (environment a.site ++ a.site.content.equations))
          was =
              let v : (v : BoxRow) × (T.box_of a.site.content.name ≡ Some v) × IsBoxRow T c.roots a.site v = row_of T c u a.site.content.name a.site (found rules p c l d s a) in
              subst (λ (E : Equations). StandFor (IsTold E) (IsTold (whole a.site))) (told_last T (names_around a.site) a.site.content.name (store_in (T.box_of a.site.content.name)) refl) v.2.stands

          is : StandFor (IsTold (told_along T (names_around a.site) ++ bindings_in U.nodes (store_in (U.box_of a.site.content.name)).bindings)) (IsTold (environment a.site ++ (a.site.content.equations ++ w.becomes.added)))
          is =
              subst (λ (E : Equations). StandFor (IsTold (told_along T (names_around a.site) ++ bindings_in U.nodes (store_in (U.box_of a.site.content.name)).bindings)) (IsTold (environment a.site ++ E))) w.becomes.keeps.equations
              (subst (λ (E : Equations). StandFor (IsTold E) (IsTold (whole (site_now w.becomes))))
              (ap (λ (m : Name). told_along U (names_around a.site ++ m ∷ [])) w.becomes.keeps.name ∙ told_last U (names_around a.site) a.site.content.name (store_in (U.box_of a.site.content.name)) refl
              ∙ ap (λ (E : Equations). E ++ bindings_in U.nodes (store_in (U.box_of a.site.content.name)).bindings) at_around) now.2.stands)

          parts : told_along T (names_down_to e) ≡ told_along T (names_around a.site) ++ (bindings_in T.nodes (store_in (T.box_of a.site.content.name)).bindings ++ told_along T (map (λ (v : Content). v.name) w.rest ++ e.content.name ∷ []))
          parts = ap (told_along T) (names_split e a.site.around a.site.content w.rest w.was) ∙ told_parts T (names_around a.site) (a.site.content.name ∷ (map (λ (v : Content). v.name) w.rest ++ e.content.name ∷ []))

          parts_now : told_along U (names_down_to f) ≡ told_along T (names_around a.site) ++ (bindings_in U.nodes (store_in (U.box_of a.site.content.name)).bindings ++ told_along T (map (λ (v : Content). v.name) w.rest ++ e.content.name ∷ []))
          parts_now = ap (told_along U) (names_split f a.site.around w.becomes.content w.rest w.is)
              ∙ (λ i. told_along U (names_around a.site ++ w.becomes.keeps.name i ∷ (map (λ (v : Content). v.name) w.rest ++ sym name i ∷ [])))
              ∙ told_parts U (names_around a.site) (a.site.content.name ∷ (map (λ (v : Content). v.name) w.rest ++ e.content.name ∷ []))
              ∙ (λ i. at_around i ++ (bindings_in U.nodes (store_in (U.box_of a.site.content.name)).bindings ++ same_told (map (λ (v : Content). v.name) w.rest ++ e.content.name ∷ []) k.keeps.nodes between i))

          stands : StandFor (IsTold (told_along U (names_down_to f))) (IsTold (whole f))
          stands = subst (λ (E : Equations). StandFor (IsTold E) (IsTold (whole f))) (sym parts_now)
              (subst (λ (E : Equations). StandFor (IsTold (told_along T (names_around a.site) ++ (bindings_in U.nodes (store_in (U.box_of a.site.content.name)).bindings ++ told_along T (map (λ (v : Content). v.name) w.rest ++ e.content.name ∷ [])))) (IsTold E))
              (sym (equations_split f a.site.around w.becomes.content w.rest w.is ∙ (λ i. environment a.site ++ (w.becomes.keeps.equations i ++ (equations_of w.rest ++ (sym content i).equations)))))
              (grown (told_along T (names_around a.site)) (bindings_in T.nodes (store_in (T.box_of a.site.content.name)).bindings) (bindings_in U.nodes (store_in (U.box_of a.site.content.name)).bindings)
              (told_along T (map (λ (v : Content). v.name) w.rest ++ e.content.name ∷ [])) (environment a.site) a.site.content.equations w.becomes.added (equations_of w.rest ++ e.content.equations) was is
              (subst (λ (E : Equations). StandFor (IsTold E) (IsTold (environment a.site ++ (a.site.content.equations ++ (equations_of w.rest ++ e.content.equations))))) parts
              (subst (λ (E : Equations). StandFor (IsTold (told_along T (names_down_to e))) (IsTold E)) (equations_split e a.site.around a.site.content w.rest w.was) row.stands))))

      on : ((IsIn a.site.content.name (names_around e) → ⊥) × (e.around ≡ f.around)) ⊎ IsUnder l.worker (slice_index c.next l.worker) a.site a.change e f → IsBoxRow U d.roots f (record r { failing = o })
      on (inl v) = aside v.0 v.1
      on (inr v) = within v
