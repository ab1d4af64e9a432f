-- The models of answers, one after another.
use Rattle.std.proofs.Common.{◌≡◌, ℕ, suc, ◌+◌, ◌<◌, ◌≤◌, List, [], ◌∷◌, ◌++◌, length, get_or, Some, None, true, subst, arith}
use Rattle.std.specs.List.{AllZip}
use Rattle.akl_terms.specs.declared.name.Name.{Name}
use Rattle.akl_model.specs.Config.{Content, Boxes, Found}
use Rattle.akl_model.specs.Changes.{box_names}
use Rattle.akl_model.specs.Derivations.{IsAnswer, AreAnswers}
use Rattle.akl_model.proofs.Results.{AreAnswers-one}
use Rattle.step_commit.specs.Cores.{CoreValue, TableIn}
use Rattle.tree_models.specs.declared.model.TreeModel.{TreeModel}
use Rattle.root_answers.specs.Models.{IsModelOf, HasModel}
use Rattle.akl_run.specs.Evaluations.{HasModels}
use Rattle.akl_run.proofs.RootBoxes.{take_boxes, take_every, AreParted, parted_answers, At, root_at, of_root}
use Rattle.akl_run.proofs.RootBoxes as root_boxes

one_more : (answers : List Content) (models : List TreeModel) (b : Content) (m : TreeModel) → AllZip IsModelOf answers models → IsModelOf b m → AllZip IsModelOf (answers ++ b ∷ []) (models ++ m ∷ [])
one_more [] [] b m z i = (i, tt)
one_more [] (_ ∷ _) b m z i = absurd z
one_more (_ ∷ _) [] b m z i = absurd z
one_more (_ ∷ answers) (_ ∷ models) b m z i = (z.0, one_more answers models b m z.1 i)

-- the first root boxes, gone through, and the models of their answers
pub record Modelled (c : CoreValue) (t : TableIn c) (n : ℕ) (models : List TreeModel) : Type 0 where
  pub answers : List Content
  pub others : List Found
  pub parted : AreParted (take_boxes n t.config.roots) answers others
  pub are_models : AllZip IsModelOf answers models

abbrev pub HaveModels : CoreValue → ℕ → List TreeModel → Type 0
HaveModels c n models = (t : TableIn c) → Modelled c t n models

pub modelled_none : (c : CoreValue) → HaveModels c 0 []
modelled_none c t = record { answers = []; others = []; parted = root_boxes.nothing; are_models = tt }

module _ (c : CoreValue) (n : ℕ) (d : Name) (h : n < length c.table.roots) (models : List TreeModel) (x : HaveModels c n models) where
  pub modelled_more : (m : TreeModel) → HasModel c (get_or c.table.roots n d) (Some m) → HaveModels c (n + 1) (models ++ m ∷ [])
  modelled_more m has t =
      let w : At t.config.roots n (get_or c.table.roots n d) = root_at c n d h t in
      let next : suc n ≡ n + 1 = omega arith in
      let y : Modelled c t n models = x t in
      let a : IsAnswer w.content w.goals × IsModelOf w.content m = of_root c n d h t (λ b gs. IsAnswer b gs × IsModelOf b m) w has in
      subst (λ (k : ℕ). Modelled c t k (models ++ m ∷ [])) next (record {
        answers = y.answers ++ w.content ∷ [];
        others = y.others;
        parted = w.more y.answers y.others y.parted a.0;
        are_models = one_more y.answers models w.content m y.are_models a.1;
      })

  pub modelled_other : HasModel c (get_or c.table.roots n d) None → HaveModels c (n + 1) models
  modelled_other has t =
      let w : At t.config.roots n (get_or c.table.roots n d) = root_at c n d h t in
      let next : suc n ≡ n + 1 = omega arith in
      let y : Modelled c t n models = x t in
      subst (λ (k : ℕ). Modelled c t k models) next (record {
        answers = y.answers;
        others = _;
        parted = w.other y.answers y.others y.parted (of_root c n d h t (λ b gs. IsAnswer b gs → ⊥) w has);
        are_models = y.are_models;
      })

pub modelled_every : (c : CoreValue) (n : ℕ) (models : List TreeModel) → length c.table.roots ≤ n → HaveModels c n models → HasModels c true models
modelled_every c n models h x t answers a =
    let y : Modelled c t n models = x t in
    let l : length (box_names t.config.roots) ≤ n = subst (λ (ns : List Name). length ns ≤ n) t.unfolds.roots h in
    let b : AreAnswers t.config.roots y.answers = subst (λ (bs : Boxes). AreAnswers bs y.answers) (take_every t.config.roots n l) (parted_answers y.parted) in
    subst (λ (as_ : List Content). AllZip IsModelOf as_ models) (AreAnswers-one t.config.roots y.answers answers b a) y.are_models
