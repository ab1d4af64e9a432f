-- Root boxes, one after another: which are answers, and which are not.
use Rattle.std.proofs.Common.{◌≡◌, ℕ, zero, suc, ◌<◌, ◌≤◌, List, [], ◌∷◌, ◌++◌, length, get_or, Some, refl, sym, ap, subst, ◌⊎◌, inl, inr, arith}
use Rattle.std.specs.List.{AllByRecursion}
use Rattle.akl_terms.specs.declared.name.Name.{Name}
use Rattle.akl_terms.specs.Equal.{IsConsistent}
use Rattle.akl_terms.specs.Decided.{Contradicts}
use Rattle.akl_model.specs.Config.{Content, Boxes, no_boxes, box, Goals, no_goals, atom, choice, Found, box_at}
use Rattle.akl_model.specs.Changes.{box_names}
use Rattle.akl_model.specs.Conditions.{IsSolved}
use Rattle.akl_model.specs.Derivations.{IsAnswer, AreAnswers}
use Rattle.akl_model.specs.Derivations as derivations
use Rattle.akl_model.proofs.NamesKept.{Stand, replay-stands}
use Rattle.akl_model.proofs.QuietEnds.{clash_not}
use Rattle.constraint_laws.proofs.Decided.{consistent_or}
use Rattle.step_laws.specs.Whereabouts.{BoxIn}
use Rattle.step_laws.proofs.Whereabouts.{in_found}
use Rattle.box_tree.specs.Tables.{all_rules}
use Rattle.step_commit.specs.Cores.{CoreValue, TableIn}
use Rattle.root_answers.specs.Roots.{OfRoot, root_box}
use Rattle.akl_run.specs.Text.{AreOthers, no_others, answered, another}
use Rattle.akl_run.specs.Written.{AreRoots}

-- the first of some boxes
abbrev pub take_boxes : ℕ → Boxes → Boxes
take_boxes zero bs = no_boxes
take_boxes (suc n) no_boxes = no_boxes
take_boxes (suc n) (box b gs bs) = box b gs (take_boxes n bs)

pub take_every : (bs : Boxes) (n : ℕ) → length (box_names bs) ≤ n → take_boxes n bs ≡ bs
take_every no_boxes zero h = refl
take_every no_boxes (suc n) h = refl
take_every (box b gs bs) zero h = absurd (omega (arith, h))
take_every (box b gs bs) (suc n) h = ap (box b gs) (take_every bs n (omega (arith, h)))

-- the answers among some boxes, and the others
pub data AreParted : Boxes → List Content → List Found → Type 0 where
  nothing : AreParted no_boxes [] []
  an_answer : {b : Content} {gs : Goals} {bs : Boxes} {answers : List Content} {others : List Found} → IsAnswer b gs → AreParted bs answers others → AreParted (box b gs bs) (b ∷ answers) others
  an_other : {b : Content} {gs : Goals} {bs : Boxes} {answers : List Content} {others : List Found} → (IsAnswer b gs → ⊥) → AreParted bs answers others → AreParted (box b gs bs) answers (root_box b gs ∷ others)

pub parted_answers : {bs : Boxes} {answers : List Content} {others : List Found} → AreParted bs answers others → AreAnswers bs answers
parted_answers nothing = derivations.none
parted_answers (an_answer a p) = derivations.one_more a (parted_answers p)
parted_answers (an_other n p) = derivations.another n (parted_answers p)

pub parted_others : {bs : Boxes} {answers : List Content} {others : List Found} → AreParted bs answers others → AreOthers bs others
parted_others nothing = no_others
parted_others (an_answer a p) = answered a (parted_others p)
parted_others (an_other n p) = another n (parted_others p)

-- a box in its place: what comes of the boxes before it
pub record At (bs : Boxes) (n : ℕ) (name : Name) : Type 0 where
  pub content : Content
  pub goals : Goals
  pub is_name : content.name ≡ name
  pub stands : BoxIn [] content goals bs
  pub more : (answers : List Content) (others : List Found) → AreParted (take_boxes n bs) answers others → IsAnswer content goals → AreParted (take_boxes (suc n) bs) (answers ++ content ∷ []) others
  pub other : (answers : List Content) (others : List Found) → AreParted (take_boxes n bs) answers others → (IsAnswer content goals → ⊥) → AreParted (take_boxes (suc n) bs) answers (others ++ root_box content goals ∷ [])

-- what is made of the boxes behind one is made of it with them
module _ {b : Content} {gs : Goals} {bs cs : Boxes} where
  on_more : {k : Content} → ((answers : List Content) (others : List Found) → AreParted bs answers others → AreParted cs (answers ++ k ∷ []) others)
      → (answers : List Content) (others : List Found) → AreParted (box b gs bs) answers others → AreParted (box b gs cs) (answers ++ k ∷ []) others
  on_more P answers others (an_answer {answers = more} a x) = an_answer a (P more others x)
  on_more P answers others (an_other {others = more} n x) = an_other n (P answers more x)

  on_other : {f : Found} → ((answers : List Content) (others : List Found) → AreParted bs answers others → AreParted cs answers (others ++ f ∷ []))
      → (answers : List Content) (others : List Found) → AreParted (box b gs bs) answers others → AreParted (box b gs cs) answers (others ++ f ∷ [])
  on_other P answers others (an_answer {answers = more} a x) = an_answer a (P more others x)
  on_other P answers others (an_other {others = more} n x) = an_other n (P answers more x)

first_more : {b : Content} {gs : Goals} (answers : List Content) (others : List Found) → AreParted no_boxes answers others → IsAnswer b gs → AreParted (box b gs no_boxes) (answers ++ b ∷ []) others
first_more _ _ nothing a = an_answer a nothing

first_other : {b : Content} {gs : Goals} (answers : List Content) (others : List Found) → AreParted no_boxes answers others → (IsAnswer b gs → ⊥) → AreParted (box b gs no_boxes) answers (others ++ root_box b gs ∷ [])
first_other _ _ nothing n = an_other n nothing

pub box_in_place : (bs : Boxes) (n : ℕ) (d : Name) → n < length (box_names bs) → At bs n (get_or (box_names bs) n d)
box_in_place no_boxes n d h = absurd (omega (arith, h))
box_in_place (box b gs bs) zero d h = record { content = b; goals = gs; is_name = refl; stands = inl (refl, refl, refl); more = first_more; other = first_other }
box_in_place (box b gs bs) (suc n) d h =
    let w : At bs n (get_or (box_names bs) n d) = box_in_place bs n d (omega (arith, h)) in
    record {
      content = w.content;
      goals = w.goals;
      is_name = w.is_name;
      stands = inr (inr w.stands);
      more = λ answers others x a. on_more {k = w.content} (λ more rest y. w.more more rest y a) answers others x;
      other = λ answers others x m. on_other {f = root_box w.content w.goals} (λ more rest y. w.other more rest y m) answers others x;
    }

-- ---- the root boxes of a core

module _ (c : CoreValue) (n : ℕ) (d : Name) (h : n < length c.table.roots) (t : TableIn c) where
  pub root_at : At t.config.roots n (get_or c.table.roots n d)
  root_at = subst (λ (ns : List Name). At t.config.roots n (get_or ns n d)) (sym t.unfolds.roots) (box_in_place t.config.roots n d (subst (λ (ns : List Name). n < length ns) t.unfolds.roots h))

  -- a fact of the root box in a place is one of its content
  pub of_root : (P : Content → Goals → Type 0) (w : At t.config.roots n (get_or c.table.roots n d)) → OfRoot c (get_or c.table.roots n d) P → P w.content w.goals
  of_root P w p =
      let s : Stand t.config = replay-stands all_rules c.table.program c.table.query c.journal t.config t.replays in
      p t w.content w.goals (subst (λ (m : Name). box_at m t.config.roots ≡ Some (root_box w.content w.goals)) w.is_name (in_found t.config.roots (root_box w.content w.goals) s.once w.stands))

-- the others are root boxes
abbrev StandIn : Boxes → List Found → Type 0
StandIn bs others = AllByRecursion (λ (f : Found). (f ≡ root_box f.content f.goals) × BoxIn [] f.content f.goals bs) others

stand_behind : (b : Content) (gs : Goals) (bs : Boxes) (others : List Found) → StandIn bs others → StandIn (box b gs bs) others
stand_behind b gs bs [] s = tt
stand_behind b gs bs (f ∷ fs) s = ((s.0.0, inr (inr s.0.1)), stand_behind b gs bs fs s.1)

others_stand : {bs : Boxes} {others : List Found} → AreOthers bs others → StandIn bs others
others_stand no_others = tt
others_stand (answered {b} {gs} {bs} {others} a x) = stand_behind b gs bs others (others_stand x)
others_stand (another {b} {gs} {bs} {others} n x) = ((refl, inl (refl, refl, refl)), stand_behind b gs bs others (others_stand x))

pub others_roots : (c : CoreValue) (t : TableIn c) (others : List Found) → AreOthers t.config.roots others → AreRoots c t others
others_roots c t others x = each others (others_stand x)
  where
    s : Stand t.config
    s = replay-stands all_rules c.table.program c.table.query c.journal t.config t.replays

    each : (fs : List Found) → StandIn t.config.roots fs → AreRoots c t fs
    each [] w = tt
    each (f ∷ fs) w = ((w.0.0, in_found t.config.roots (root_box f.content f.goals) s.once w.0.1), each fs w.1)

-- ---- each list of boxes has its answers, and those of the first boxes stand before those of the others

is_solved_or : (gs : Goals) → IsSolved gs ⊎ (IsSolved gs → ⊥)
is_solved_or no_goals = inl tt
is_solved_or (atom g a gs) = inr (λ s. s)
is_solved_or (choice g o bs gs) = inr (λ s. s)

is_answer_or : (b : Content) (gs : Goals) → IsAnswer b gs ⊎ (IsAnswer b gs → ⊥)
is_answer_or b gs = on (is_solved_or gs) (consistent_or b.equations)
  where
    on : IsSolved gs ⊎ (IsSolved gs → ⊥) → IsConsistent b.equations ⊎ Contradicts b.equations → IsAnswer b gs ⊎ (IsAnswer b gs → ⊥)
    on (inl s) (inl k) = inl (record { solved = s; consistent = k })
    on (inr n) k = inr (λ a. n a.solved)
    on (inl s) (inr d) = inr (λ a. clash_not b.equations d a.consistent)

-- the answers that stand behind some
abbrev pub MoreAnswers : Boxes → List Content → Type 0
MoreAnswers bs first = (left : List Content) × AreAnswers bs (first ++ left)

all_answers : (bs : Boxes) → MoreAnswers bs []
all_answers no_boxes = ([], derivations.none)
all_answers (box b gs bs) = on (is_answer_or b gs) (all_answers bs)
  where
    on : IsAnswer b gs ⊎ (IsAnswer b gs → ⊥) → MoreAnswers bs [] → MoreAnswers (box b gs bs) []
    on (inl a) (left, x) = (b ∷ left, derivations.one_more a x)
    on (inr n) (left, x) = (left, derivations.another n x)

pub first_answers : (bs : Boxes) (n : ℕ) (first : List Content) → AreAnswers (take_boxes n bs) first → MoreAnswers bs first
first_answers bs zero [] x = all_answers bs
first_answers bs zero (_ ∷ _) x = elim x [ ]
first_answers no_boxes (suc n) [] x = ([], derivations.none)
first_answers no_boxes (suc n) (_ ∷ _) x = elim x [ ]
first_answers (box b gs bs) (suc n) _ (derivations.one_more {answers = more} a x) = on (first_answers bs n more x)
  where
    on : MoreAnswers bs more → MoreAnswers (box b gs bs) (b ∷ more)
    on (left, y) = (left, derivations.one_more a y)
first_answers (box b gs bs) (suc n) first (derivations.another m x) = on (first_answers bs n first x)
  where
    on : MoreAnswers bs first → MoreAnswers (box b gs bs) first
    on (left, y) = (left, derivations.another m y)
