-- What a plan lists as bound has the oldest of each class, by the equations of each root box.
use Rattle.std.proofs.Common.{◌≡◌, ◌+◌, ◌≤◌, ◌<◌, List, [], ◌∷◌, ◌++◌, Some, refl, sym, ◌∙◌, ap, subst, inl, inr, arith, append-nil}
use Rattle.akl_terms.specs.declared.name.Name.{Name}
use Rattle.akl_terms.specs.declared.name.Var.{Var}
use Rattle.akl_terms.specs.declared.program.Program.{Program}
use Rattle.akl_terms.specs.declared.program.Query.{Query}
use Rattle.akl_terms.specs.Tree.{Tree, variable, head_of}
use Rattle.akl_terms.specs.Touching.{IsLocal}
use Rattle.akl_terms.specs.Equal.{Equations, Equal, turned, IsStructured}
use Rattle.constraint_laws.specs.Bound.{IsNewlyBound}
use Rattle.constraint_laws.specs.Oldest.{IsOldest}
use Rattle.constraint_laws.specs.Touched.{IsAmong}
use Rattle.constraint_laws.proofs.Decided.{kept_by}
use Rattle.constraint_laws.proofs.Grown.{over_kept}
use Rattle.constraint_laws.proofs.SameTerms.{Either, var_or, name_or}
use Rattle.constraint_laws.proofs.Inward.{bound_outer}
use Rattle.akl_model.specs.declared.label.Rule.{Rule}
use Rattle.akl_model.specs.declared.label.Label.{Label}
use Rattle.akl_model.specs.Config.{IsIn, Content, Boxes, no_boxes, box, Goals, Config, Found, whole, box_at}
use Rattle.akl_model.specs.Changes.{Binds}
use Rattle.akl_model.specs.Derivations.{Derives, Replays}
use Rattle.akl_model.specs.Stable.{only, frames_inside}
use Rattle.akl_model.proofs.Finds.{times, times_of, times_inside}
use Rattle.akl_model.proofs.NamesKept.{box-itself}
use Rattle.akl_model.proofs.Options.{some_value}
use Rattle.akl_model.proofs.Scoped.{IsIn-left, IsIn-either}
use Rattle.akl_model.specs.Names.{times_in}
use Rattle.akl_model.proofs.ScopesAlong.{times_path, counted_in, local_in, frames_counted}
use Rattle.step_laws.specs.Bound.{AreBoundIn}
use Rattle.step_laws.specs.Likeness.{IsOld}
use Rattle.step_laws.specs.Stays.{GoesOn}
use Rattle.step_laws.specs.Whereabouts.{BoxIn}
use Rattle.step_laws.proofs.Whereabouts.{found_in, in_found, in_counted}
use Rattle.plan_laws.proofs.InScope.{Good}
use Rattle.plan_laws.proofs.Replayed.{good_replay}
use Rattle.reading_laws.specs.Ends.{HasEnds}
use Rattle.reading_laws.specs.Unchanged.{path_to, frames_along}
use Rattle.reading_laws.proofs.Labels.{whole_over}
use Rattle.reading_laws.proofs.Outermost.{HasFirst}
use Rattle.reading_laws.proofs.RootsAlong.{first_found, first_outermost, first_before, first_now, first_there}
use Rattle.reading_laws.proofs.TreeNames.{tree_kept, in_tree, in_two}
use Rattle.reading_laws.proofs.Untouched.{good_later}

-- by no equations a variable is equal to itself alone, and unstructured
itself : (x : Var) (t : Tree) → Equal [] (variable x) t → variable x ≡ t
itself x t e = elim (kept_by (over_kept (λ v. ⊥) [] (record { each = λ s t m. absurd m })) e) [ inl q ↦ q | inr i ↦ absurd i.0 ]

unstructured : (x : Var) → IsStructured [] x → ⊥
unstructured x s = let q : variable x ≡ s.0 = itself x s.0 s.2 in let r : head_of (variable x) ≡ Some s.1 = ap head_of q ∙ s.3 in absurd cc

-- a variable that a root box's equations make equal to another one is of its frames
pub of_frames : (c : Config) → Good c → (n : Name) (g : Found) → box_at n c.roots ≡ Some g → g.around ≡ [] → (x y : Var) → (x ≡ y → ⊥) → Equal (whole g) (variable x) (variable y) → IsIn x.frame g.content.frames
of_frames c w n g i root x y apart e = local_in g.content.frames x (subst (λ (fs : List Name). IsLocal fs x) frames
    (bound_outer (IsLocal (frames_along (path_to g))) [] (whole g) (whole_over c w n g i) x (record { unstructured = unstructured x; told = inr (y, e, λ q. apart (same (itself x (variable y) q))) })))
  where
    frames : frames_along (path_to g) ≡ g.content.frames
    frames = ap (λ (xs : List Content). frames_along (xs ++ g.content ∷ [])) root ∙ append-nil g.content.frames

    same : variable x ≡ variable y → x ≡ y
    same q = cc

-- a frame of a box is counted in its tree
pub counted : (k : Name) (b : Content) (gs : Goals) → IsIn k b.frames → 0 < times k (box b gs no_boxes)
counted k b gs i = frames_counted k (box b gs no_boxes) (IsIn-left k b.frames (frames_inside gs ++ []) i)

-- a frame of a box, or of one around it, is counted where the box stands
path_counted : (k : Name) (r : List Content) (b : Content) → IsIn k (frames_along (r ++ b ∷ [])) → 0 < times_of k b + times_path k r
path_counted k [] b i = elim (IsIn-either k b.frames [] i) [ inl h ↦ let v : 0 < times_in k b.frames = counted_in k b.frames h in omega arith | inr h ↦ absurd h ]
path_counted k (a ∷ r) b i = elim (IsIn-either k a.frames (frames_along (r ++ b ∷ [])) i) [
  | inl h ↦ let v : 0 < times_in k a.frames = counted_in k a.frames h in omega arith
  | inr h ↦ let v : 0 < times_of k b + times_path k r = path_counted k r b h in omega arith
]

pub in_scope_counted : (k : Name) (r : List Content) (b : Content) (gs : Goals) (bs : Boxes) → BoxIn r b gs bs → IsIn k (frames_along (r ++ b ∷ [])) → 0 < times k bs
in_scope_counted k r b gs bs x i =
    let u : times k (box b gs no_boxes) + times_path k r ≤ times k bs = in_counted k r b gs bs x in
    let v : 0 < times_of k b + times_path k r = path_counted k r b i in
    let y : times k (box b gs no_boxes) ≡ times_of k b + (times_inside k gs + 0) = refl in
    omega arith

-- a variable that is bound in a box is of a frame of it, or of a box around it
pub bound_frame : (c : Config) → Good c → (n : Name) (f : Found) → box_at n c.roots ≡ Some f → (E : Equations) (x : Var) → IsNewlyBound E (whole f) x → IsIn x.frame (frames_along (path_to f))
bound_frame c w n f e E x b = local_in (frames_along (path_to f)) x (bound_outer (IsLocal (frames_along (path_to f))) E (whole f) (whole_over c w n f e) x b)

-- the tree in which a box stands is that of the outermost box around it
first_of : (c : Config) (b : Found) (k : Content) (gs : Goals) → BoxIn b.around b.content b.goals (box k gs no_boxes) → (h : HasFirst c b) → k ≡ h.content
first_of c b k gs x h = on x
  where
    heads : {u v : Content} {xs ys : List Content} → u ∷ xs ≡ v ∷ ys → u ≡ v
    heads q = cc

    on : BoxIn b.around b.content b.goals (box k gs no_boxes) → k ≡ h.content
    on (inl y) = heads ((λ i. sym y.0 i ++ sym y.1 i ∷ []) ∙ h.path)
    on (inr (inl y)) = heads ((λ i. sym y.1 i ++ b.content ∷ []) ∙ h.path)
    on (inr (inr y)) = absurd y

module _ (rules : List Rule) (p : Program) (q : Query) (journal : List Label) (c : Config) (ls : List Label) (e : Config) (r : Replays rules p q journal c) (w : Derives rules p c ls e)
    (f : Found) (here : box_at f.content.name c.roots ≡ Some f) (list : List Var) (bound : AreBoundIn c e f list) where
  run : GoesOn rules p c ls e
  run = record { query = q; journal = journal; replays = r; derives = w }

  good_c : Good c
  good_c = good_replay rules p q journal c r

  good_e : Good e
  good_e = good_later rules p c ls e run

  -- a frame that stands in a root box
  module _ (n : Name) (g : Found) (i : box_at n c.roots ≡ Some g) (root : g.around ≡ []) where
    stood : BoxIn [] g.content g.goals c.roots
    stood = subst (λ (path : List Content). BoxIn path g.content g.goals c.roots) root (found_in n c.roots g i)

    is_old : (k : Name) → IsIn k g.content.frames → IsOld c k
    is_old k h = good_c.stand.below k (
        let a : 0 < times k (box g.content g.goals no_boxes) = counted k g.content g.goals h in
        let b : times k (box g.content g.goals no_boxes) + times_path k [] ≤ times k c.roots = in_counted k [] g.content g.goals c.roots stood in
        omega arith)

    -- is of no variable that is bound in the tree of another one
    module _ (b : Found) (there : box_at f.content.name e.roots ≡ Some b) (other : g.content.name ≡ (first_before rules p c ls e run f.content.name f b here there).content.name → ⊥) where
      abbrev before : HasFirst c f
      before = first_before rules p c ls e run f.content.name f b here there

      abbrev now : HasFirst e b
      now = first_now rules p c ls e run f.content.name f b here there

      elsewhere : (x : Var) → IsIn x.frame g.content.frames → IsIn x.frame (frames_along (path_to b)) → ⊥
      elsewhere x h k = clash
        where
          a : 0 < times x.frame (box g.content g.goals no_boxes)
          a = counted x.frame g.content g.goals h

          both : times x.frame (box g.content g.goals no_boxes) + times x.frame (box before.content before.goals no_boxes) ≤ times x.frame c.roots
          both = in_two x.frame g.content g.goals before.content before.goals c.roots stood (found_in before.content.name c.roots (first_found before) before.found) other

          none : times x.frame (only (first_found before)) ≡ 0
          none =
              let u : times x.frame c.roots ≤ 1 = good_c.stand.once x.frame in
              let v : 0 < times x.frame (box g.content g.goals no_boxes) = a in
              let y : times x.frame (box g.content g.goals no_boxes) + times x.frame (box before.content before.goals no_boxes) ≤ times x.frame c.roots = both in
              omega arith

          none_now : times x.frame (only (first_found now)) ≡ 0
          none_now = tree_kept rules p q journal c ls e r w before.content.name (first_found before) (first_found now) before.found (first_there rules p c ls e run f.content.name f b here there) x.frame (is_old x.frame h) none

          tree : (k : Content) × (gs : Goals) × BoxIn [] k gs e.roots × BoxIn b.around b.content b.goals (box k gs no_boxes)
          tree = in_tree b.around b.content b.goals e.roots (found_in f.content.name e.roots b there)

          same_tree : record { around = []; content = tree.0; goals = tree.1 } ≡ first_found now
          same_tree = some_value (sym (in_found e.roots (record { around = []; content = tree.0; goals = tree.1 }) good_e.stand.once tree.2)
              ∙ ap (λ (m : Name). box_at m e.roots) (ap (λ (u : Content). u.name) (first_of e b tree.0 tree.1 tree.3 now)) ∙ now.found)

          clash : ⊥
          clash =
              let u : 0 < times x.frame (box tree.0 tree.1 no_boxes) = in_scope_counted x.frame b.around b.content b.goals (box tree.0 tree.1 no_boxes) tree.3 k in
              let v : times x.frame (box tree.0 tree.1 no_boxes) ≡ times x.frame (only (first_found now)) = ap (λ (t : Found). times x.frame (only t)) same_tree in
              let y : times x.frame (only (first_found now)) ≡ 0 = none_now in
              absurd (omega (arith, u, v, y))

  module _ (kept : List Var) (within : (x : Var) → IsAmong x kept → IsAmong x list) (all : (x : Var) → IsAmong x list → IsOld c x.frame → IsAmong x kept) (n : Name) (g : Found) (i : box_at n c.roots ≡ Some g) (root : g.around ≡ [])
      (x y : Var) (m : IsAmong x kept) (o : IsOldest (whole g) x y) (apart : x ≡ y → ⊥) where
    binds : Binds c e f.content.name x
    binds = bound.each x (within x m)

    abbrev first : HasFirst c f
    first = first_before rules p c ls e run f.content.name f binds.adds.afterwards here binds.adds.is

    its_frame : IsIn x.frame g.content.frames
    its_frame = of_frames c good_c n g i root x y apart o.equal

    listed : Either (g.content.name ≡ first.content.name) → IsAmong y list
    listed (inl s) = bound.oldest x y (within x m) (subst (λ (E : Equations). IsOldest E x y) (ap whole same ∙ sym (first_outermost c f first)) o)
      where
        same : g ≡ first_found first
        same = some_value (sym i ∙ ap (λ (k : Name). box_at k c.roots) (box-itself n c.roots g i ∙ s) ∙ first.found)
    listed (inr s) = absurd (elsewhere n g i root binds.adds.afterwards binds.adds.is s x its_frame (bound_frame e good_e f.content.name binds.adds.afterwards binds.adds.is (whole binds.adds.before) x binds.newly_bound))

    oldest_kept : IsAmong y kept
    oldest_kept = all y (listed (name_or g.content.name first.content.name)) (is_old n g i root y.frame (of_frames c good_c n g i root y x (λ q. apart (sym q)) (turned o.equal)))

  pub listed_ends : (kept : List Var) → ((x : Var) → IsAmong x kept → IsAmong x list) → ((x : Var) → IsAmong x list → IsOld c x.frame → IsAmong x kept) → HasEnds c kept
  listed_ends kept within all = record {
    each = λ n g i root h x y m free o. elim (var_or x y) [ inl s ↦ subst (λ (u : Var). IsAmong u kept) s m | inr apart ↦ oldest_kept kept within all n g i root x y m o apart ];
  }
