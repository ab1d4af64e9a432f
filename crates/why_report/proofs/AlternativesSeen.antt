-- The alternatives that are seen of a choice, and what they touch.
use Rattle.std.proofs.Common.{◌≡◌, ℕ, zero, ◌+◌, ◌<◌, take, slice_index_or, Bool, true, false, List, [], ◌∷◌, ◌++◌, length, map, suc, Option, Some, None, refl, sym, ◌∙◌, ap, subst, inl, inr, arith, append-nil}
use Rattle.std.specs.Prelude.{if◌then◌else◌}
use Rattle.akl_terms.specs.declared.name.Name.{Name}
use Rattle.akl_terms.specs.declared.name.Var.{Var}
use Rattle.akl_terms.specs.declared.name.Place.{Place}
use Rattle.akl_terms.specs.declared.program.Program.{Program}
use Rattle.akl_terms.specs.Names.{same_name}
use Rattle.akl_terms.specs.Tree.{variable}
use Rattle.akl_terms.specs.Equal.{Equations, Equal, turned, IsConsistent}
use Rattle.akl_terms.proofs.SameNames.{same_name-equal, same_name-refl}
use Rattle.akl_model.specs.Config.{IsIn, Operator, Content, Boxes, no_boxes, box, Goals, Config, Held, an_atom, a_choice, held_in, Found, equations_of, environment, whole, box_at, site_of, home_of}
use Rattle.akl_model.specs.Rules.{alternative_of}
use Rattle.akl_model.specs.Changes.{box_names}
use Rattle.akl_model.specs.Derivations.{IsQuietEnd}
use Rattle.akl_model.specs.Instances.{start}
use Rattle.akl_model.specs.Stable.{only, frames_of, TouchesFrom}
use Rattle.akl_model.proofs.Options.{some_value}
use Rattle.akl_model.proofs.Results.{Derives-one}
use Rattle.akl_model.proofs.Scoped.{IsIn-left, IsIn-right, IsIn-either}
use Rattle.constraint_laws.specs.Touched.{IsAmong}
use Rattle.rational_unify.proofs.Taking.{take-next}
use Rattle.step_laws.specs.Whereabouts.{BoxIn, Stands}
use Rattle.step_laws.proofs.Stays.{alternative_in, alternative_stands}
use Rattle.step_laws.proofs.Whereabouts.{in_found, home_in}
use Rattle.plan_laws.proofs.Concerned.{inside_around}
use Rattle.plan_laws.proofs.Frames.{some_found}
use Rattle.local_store.specs.Stored.{Stored}
use Rattle.local_store.proofs.Among.{among-either, among-left, among-right}
use Rattle.table_laws.specs.Rows.{Table}
use Rattle.box_tree.specs.declared.inside.Inside.{Inside}
use Rattle.box_tree.specs.declared.view.Alternative.{Alternative}
use Rattle.box_tree.specs.Insides.{IsInsideOf}
use Rattle.box_tree.specs.Tables.{all_rules, table_of}
use Rattle.box_tree.specs.Views.{ViewValue, IsViewOf, alternatives_held, AreSeen}
use Rattle.guard_plan.proofs.Sites.{stand}
use Rattle.stable_test.specs.Inner.{IsTouchedInside, AreTouchedInside}
use Rattle.stable_test.specs.Seen.{IsSeenInside}
use Rattle.step_commit.specs.Cores.{CoreValue, TableIn}
use Rattle.root_answers.specs.Roots.{root_box}
use Rattle.why_laws.specs.Watched.{TouchesWithin, Watches, by_atom, by_choice}
use Rattle.why_laws.proofs.BoxesInside.{some_where, stands_in}
use Rattle.why_report.specs.Sights.{IsBoxWithin, AreTouchedIn, AreTouchedBy}
use Rattle.why_report.proofs.RootGoals.{good, all_consistent, is_root, root_stands}

-- by names

alternative_named : (f : Found) (n : Name) (bs : Boxes) → IsIn n (box_names bs) → (m : Found) × (alternative_of f n bs ≡ Some m)
alternative_named f n no_boxes k = absurd k
alternative_named f n (box b gs bs) k = on (same_name n b.name) refl k (λ l. alternative_named f n bs l)
  where
    here : Found
    here = record { around = f.around ++ f.content ∷ []; content = b; goals = gs }

    on : (t : Bool) → same_name n b.name ≡ t → IsIn n (b.name ∷ box_names bs) → (IsIn n (box_names bs) → (m : Found) × (alternative_of f n bs ≡ Some m)) → (m : Found) × ((if t then Some (record { around = f.around ++ f.content ∷ []; content = b; goals = gs }) else alternative_of f n bs) ≡ Some m)
    on true s l deeper = (here, refl)
    on false s (inl e) deeper = let z : true ≡ false = sym (same_name-refl n) ∙ ap (same_name n) e ∙ s in cc
    on false s (inr l) deeper = deeper l

named_alternative : (f m : Found) (n : Name) (bs : Boxes) → alternative_of f n bs ≡ Some m → IsIn n (box_names bs)
named_alternative f m n no_boxes e = cc
named_alternative f m n (box b gs bs) e = on (same_name n b.name) refl e (λ l. named_alternative f m n bs l)
  where
    on : (t : Bool) → same_name n b.name ≡ t → (if t then Some (record { around = f.around ++ f.content ∷ []; content = b; goals = gs }) else alternative_of f n bs) ≡ Some m
        → (alternative_of f n bs ≡ Some m → IsIn n (box_names bs)) → IsIn n (b.name ∷ box_names bs)
    on true s l deeper = inl (same_name-equal n b.name s)
    on false s l deeper = inr (deeper l)

seen_names : (T : Table) (ss : List Stored) (bs : Boxes) (seen : List Alternative) → AreSeen T ss bs seen → map (λ (a : Alternative). a.name) seen ≡ box_names bs
seen_names T ss no_boxes [] h = refl
seen_names T ss (box b gs bs) (a ∷ rest) h = λ j. h.0.name j ∷ seen_names T ss bs rest h.1 j
seen_names T ss no_boxes (a ∷ rest) h = absurd h
seen_names T ss (box b gs bs) [] h = absurd h

as_deep : (around : List Content) (b : Content) → length (around ++ b ∷ []) ≡ length (map (λ (k : Content). k.name) around ++ b.name ∷ [])
as_deep [] b = refl
as_deep (a ∷ around) b = ap suc (as_deep around b)

module _ (v : ViewValue) (i : IsViewOf v) (g : Name) (at : v.place ≡ Place.Goal g) where
  home : home_of g i.table.config.roots ≡ Some i.site
  home = subst (λ (q : Place). site_of q i.table.config.roots ≡ Some i.site) at i.is_site

  pub names_seen : map (λ (a : Alternative). a.name) v.alternatives ≡ box_names (alternatives_held (held_in g i.site.goals))
  names_seen = subst (λ (q : Place). map (λ (a : Alternative). a.name) v.alternatives ≡ box_names (Rattle.box_tree.specs.Views.alternatives_at q i.site)) at
      (seen_names (table_of v.table) v.stores (Rattle.box_tree.specs.Views.alternatives_at v.place i.site) v.alternatives i.alternatives)

  -- each is a box that is there, with the boxes down to the goal around it
  pub box_within : (c : CoreValue) → v.table ≡ c.table → v.journal ≡ c.journal → (n : Name) → IsIn n (map (λ (a : Alternative). a.name) v.alternatives) → IsBoxWithin c n (length v.path)
  box_within c q r n k = subst (λ (d : CoreValue). IsBoxWithin d n (length v.path)) (λ j. record c { table = q j; journal = r j }) (on (held_in g i.site.goals) refl (subst (IsIn n) names_seen k))
    where
      seen : CoreValue
      seen = record c { table = v.table; journal = v.journal }

      on : (o : Option Held) → held_in g i.site.goals ≡ o → IsIn n (box_names (alternatives_held o)) → IsBoxWithin (record c { table = v.table; journal = v.journal }) n (length v.path)
      on None e l = absurd l
      on (Some (an_atom a)) e l = absurd l
      on (Some (a_choice o bs)) e l =
          let m : (m : Found) × (alternative_of i.site n bs ≡ Some m) = alternative_named i.site n bs l in
          let w : BoxIn [] m.0.content m.0.goals bs × (m.0.around ≡ i.site.around ++ i.site.content ∷ []) × (n ≡ m.0.content.name) = alternative_in i.site n bs m.0 m.1 in
          let s : Stands m.0 i.table.config.roots = alternative_stands g n o bs i.table.config.roots i.site m.0 (home_in g i.table.config.roots i.site home).0 e m.1 in
          record {
            table = i.table;
            site = m.0;
            is_site = subst (λ (k : Name). box_at k i.table.config.roots ≡ Some m.0) (sym w.2) (in_found i.table.config.roots m.0 (stand v i).once s);
            deep = ap (λ (l : List Content). length l) w.1 ∙ as_deep i.site.around i.site.content ∙ ap (λ (l : List Name). length l) (sym i.path);
          }

-- what a box that is there touches, by all that is seen inside it
module _ (c : CoreValue) (n : Name) (depth : ℕ) (w : IsBoxWithin c n depth) (p : Program) (same : p ≡ c.table.program) (inside : Inside) (seen : IsInsideOf c.table c.journal n 1 inside) where
  abbrev pub seen_inside : IsSeenInside p depth inside
  seen_inside = record { table = c.table; of_program = sym same; journal = c.journal; run = w.table; name = n; worker = 1; inside = seen; site = w.site; is_site = w.is_site; deep = w.deep }

  pub touched_in : (of : List Var) → ((s : IsSeenInside p depth inside) → AreTouchedInside p s.site of) → AreTouchedIn c n of
  touched_in of h t m e = subst (λ (f : Found). AreTouchedInside c.table.program f of) is (subst (λ (q : Program). AreTouchedInside q w.site of) same (h seen_inside))
    where
      one : w.table.config ≡ t.config
      one = Derives-one all_rules c.table.program (start c.table.program c.table.query) w.table.config t.config c.journal w.table.replays.derives t.replays.derives

      is : w.site ≡ m
      is = some_value (sym w.is_site ∙ ap (λ (k : Config). box_at n k.roots) one ∙ e)

-- one alternative after another
in_at : (xs : List Alternative) (i : ℕ) (d : Alternative) → i < length xs → IsIn (slice_index_or xs i d).name (map (λ (a : Alternative). a.name) xs)
in_at [] i d l = absurd (omega arith)
in_at (x ∷ xs) zero d l = inl refl
in_at (x ∷ xs) (suc i) d l = inr (in_at xs i d (omega arith))

pub named_at : (xs : List Alternative) (i : ℕ) (a : Alternative) → i < length xs → a ≡ slice_index_or xs i a → IsIn a.name (map (λ (a : Alternative). a.name) xs)
named_at xs i a l e = subst (λ (b : Alternative). IsIn b.name (map (λ (a : Alternative). a.name) xs)) (sym e) (in_at xs i a l)

names_push : (xs : List Alternative) (x : Alternative) → map (λ (a : Alternative). a.name) (xs ++ x ∷ []) ≡ map (λ (a : Alternative). a.name) xs ++ x.name ∷ []
names_push [] x = refl
names_push (y ∷ ys) x = ap (λ (l : List Name). y.name ∷ l) (names_push ys x)

pub none_touched : (c : CoreValue) → AreTouchedBy c [] []
none_touched c = record { each = λ x m. absurd m; every = λ n m t f e x s. absurd m }

touched_push : (c : CoreValue) (names : List Name) (n : Name) (of more : List Var) → AreTouchedBy c names of → AreTouchedIn c n more → AreTouchedBy c (names ++ n ∷ []) (of ++ more)
touched_push c names n of more h k = record {
  each = λ x m. elim (among-either of more x m) [
    | inl a ↦ let w : (j : Name) × IsIn j names × ((t : TableIn c) (m : Found) → box_at j t.config.roots ≡ Some m → IsTouchedInside c.table.program m x) = h.each x a in (w.0, IsIn-left w.0 names (n ∷ []) w.1, w.2)
    | inr b ↦ (n, IsIn-right n names (n ∷ []) (inl refl), λ t m e. (k t m e).each x b)
  ];
  every = λ j m t f e x s. elim (IsIn-either j names (n ∷ []) m) [
    | inl a ↦ let w : (y : Var) × IsAmong y of × Equal (environment f) (variable x) (variable y) = h.every j a t f e x s in (w.0, among-left of more w.0 w.1, w.2)
    | inr b ↦
        let q : j ≡ n = elim b [ inl q ↦ q | inr z ↦ absurd z ] in
        let w : (y : Var) × IsAmong y more × Equal (environment f) (variable x) (variable y) = (k t f (subst (λ (i : Name). box_at i t.config.roots ≡ Some f) q e)).every x s in
        (w.0, among-right of more w.0 w.1, w.2)
  ];
}

pub touched_next : (c : CoreValue) (xs : List Alternative) (i : ℕ) (a : Alternative) → i < length xs → a ≡ slice_index_or xs i a → (of more : List Var) → AreTouchedBy c (map (λ (a : Alternative). a.name) (take i xs)) of → AreTouchedIn c a.name more
    → AreTouchedBy c (map (λ (a : Alternative). a.name) (take (i + 1) xs)) (of ++ more)
touched_next c xs i a l e of more h k = subst (λ (ns : List Name). AreTouchedBy c ns (of ++ more))
    (sym (ap (map (λ (a : Alternative). a.name)) (take-next xs i (i + 1) a l (omega arith)) ∙ names_push (take i xs) (slice_index_or xs i a)))
    (touched_push c (map (λ (a : Alternative). a.name) (take i xs)) (slice_index_or xs i a).name of more h (subst (λ (b : Alternative). AreTouchedIn c b.name more) e k))

turned_to : (E : Equations) (of : List Var) (x : Var) → (y : Var) × IsAmong y of × Equal E (variable x) (variable y) → (y : Var) × IsAmong y of × Equal E (variable y) (variable x)
turned_to E of x w = (w.0, w.1, turned w.2)

-- what alternatives touch, where the goal stands directly in a root box and no place is ready
module _ (v : ViewValue) (i : IsViewOf v) (quiet : IsQuietEnd all_rules v.table.program i.table.config) (g : Name) (at : v.place ≡ Place.Goal g)
    (n : Name) (b : Content) (gs : Goals) (h : Held) (there : box_at n i.table.config.roots ≡ Some (root_box b gs)) (held : held_in g gs ≡ Some h) where
  abbrev p : Program
  p = v.table.program

  abbrev f : Found
  f = root_box b gs

  module _ (o : Operator) (bs : Boxes) (holds : held_in g gs ≡ Some (a_choice o bs)) where
    names_are : map (λ (a : Alternative). a.name) v.alternatives ≡ box_names bs
    names_are = names_seen v i g at ∙ ap (λ (k : Found). box_names (alternatives_held (held_in g k.goals))) (is_root v i quiet g at n b gs h there held) ∙ ap (λ (k : Option Held). box_names (alternatives_held k)) holds

    -- one alternative
    module _ (k : Name) (m : Found) (is : alternative_of (root_box b gs) k bs ≡ Some m) where
      around : m.around ≡ b ∷ []
      around = (alternative_in f k bs m is).1

      m_stands : Stands m i.table.config.roots
      m_stands = alternative_stands g k o bs i.table.config.roots f m (root_stands v i quiet g at n b gs h there held) holds is

      pub m_there : box_at k i.table.config.roots ≡ Some m
      m_there = subst (λ (j : Name). box_at j i.table.config.roots ≡ Some m) (sym (alternative_in f k bs m is).2) (in_found i.table.config.roots m (stand v i).once m_stands)

      pub environment_is : environment m ≡ b.equations
      environment_is = ap equations_of around ∙ append-nil b.equations

      abbrev Touching : Var → Found → Type 0
      Touching x d = TouchesFrom v.table.program (frames_of (only m)) (environment m) d x

      pub touches : (x : Var) → IsTouchedInside v.table.program m x → TouchesWithin v.table.program m x × IsIn x.frame b.frames
      touches x s = some_found (λ (d : Found). IsConsistent (whole d) × Touching x d) (TouchesWithin p m x × IsIn x.frame b.frames) m.around (only m) each s
        where
          each : (r : List Content) (a : Content) (is : Goals) → BoxIn r a is (only m) → IsConsistent (whole (record { around = m.around ++ r; content = a; goals = is })) × Touching x (record { around = m.around ++ r; content = a; goals = is })
              → TouchesWithin p m x × IsIn x.frame b.frames
          each r a is j t = (
            some_where (Touching x) m.around (only m) r a is j t.1,
            own x (subst (λ (l : List Content). IsIn x.frame (Rattle.akl_model.proofs.ScopesAlong.scope_along Rattle.akl_model.specs.Scopes.nowhere l).frames) around (inside_around i.table.config (good v i quiet) p x k m m_there r a is j t.1)),
          )
            where
              own : (x : Var) → IsIn x.frame (b.frames ++ []) → IsIn x.frame b.frames
              own x l = subst (IsIn x.frame) (append-nil b.frames) l

      pub touched : (x : Var) → TouchesWithin v.table.program m x → IsTouchedInside v.table.program m x
      touched x s = some_found (Touching x) (IsTouchedInside p m x) m.around (only m)
          (λ r a is j t. some_where (λ (d : Found). IsConsistent (whole d) × Touching x d) m.around (only m) r a is j
          (all_consistent v i quiet (record { around = m.around ++ r; content = a; goals = is }) (stands_in m i.table.config.roots m_stands r a is j), t)) s

    module _ (c : CoreValue) (tables : v.table ≡ c.table) (journals : v.journal ≡ c.journal) (of : List Var) (w : AreTouchedBy c (map (λ (a : Alternative). a.name) v.alternatives) of) where
      abbrev seen : CoreValue
      seen = record c { table = v.table; journal = v.journal }

      here : AreTouchedBy (record c { table = v.table; journal = v.journal }) (box_names bs) of
      here = subst (λ (ns : List Name). AreTouchedBy seen ns of) names_are (subst (λ (d : CoreValue). AreTouchedBy d (map (λ (a : Alternative). a.name) v.alternatives) of) (λ j. record c { table = sym tables j; journal = sym journals j }) w)

      pub each_touched : (x : Var) → IsAmong x of → Watches v.table.program (root_box b gs) g x
      each_touched x l =
          let k : (k : Name) × IsIn k (box_names bs) × ((t : TableIn seen) (m : Found) → box_at k t.config.roots ≡ Some m → IsTouchedInside p m x) = here.each x l in
          let m : (m : Found) × (alternative_of f k.0 bs ≡ Some m) = alternative_named f k.0 bs k.1 in
          let t : TouchesWithin p m.0 x × IsIn x.frame b.frames = touches k.0 m.0 m.1 x (k.2 i.table m.0 (m_there k.0 m.0 m.1)) in
          by_choice k.0 holds m.1 t.0 t.1

      on_choice : (x : Var) (k : Name) (m : Found) (q : Operator) (cs : Boxes) → held_in g gs ≡ Some (a_choice q cs) → alternative_of (root_box b gs) k cs ≡ Some m → TouchesWithin v.table.program m x
          → (y : Var) × IsAmong y of × Equal b.equations (variable y) (variable x)
      on_choice x k m q cs e is t =
          let u : Some (a_choice q cs) ≡ Some (a_choice o bs) = sym e ∙ holds in
          let s : cs ≡ bs = cc in
          let is_one : alternative_of f k bs ≡ Some m = subst (λ (ds : Boxes). alternative_of f k ds ≡ Some m) s is in
          turned_to b.equations of x (subst (λ (E : Equations). (y : Var) × IsAmong y of × Equal E (variable x) (variable y)) (environment_is k m is_one)
          (here.every k (named_alternative f m k bs is_one) i.table m (m_there k m is_one) x (touched k m is_one x t)))

      pub every_touched : (x : Var) → Watches v.table.program (root_box b gs) g x → (y : Var) × IsAmong y of × Equal b.equations (variable y) (variable x)
      every_touched x (by_choice {o = q} {bs = cs} {m = m} k e is t fr) = on_choice x k m q cs e is t
      every_touched x (by_atom {a = a} on e w2 q fr) = let u : Some (an_atom a) ≡ Some (a_choice o bs) = sym e ∙ holds in absurd cc
