-- The texts of answers, one after another, and the names of the other root boxes.
use Rattle.std.proofs.Common.{◌≡◌, ℕ, suc, ◌+◌, ◌<◌, ◌≤◌, List, [], ◌∷◌, ◌++◌, length, map, get_or, Option, Some, None, Bool, true, false, refl, sym, ◌∙◌, ap, subst, append_assoc, append-nil, arith}
use Rattle.std.specs.Prelude.{slice_get}
use Rattle.std.specs.List.{AllZip}
use Rattle.std.proofs.lemmas.List.{length-append, map-append}
use Rattle.akl_terms.specs.declared.name.Name.{Name}
use Rattle.akl_model.specs.Config.{Content, Boxes, Found}
use Rattle.akl_model.specs.Changes.{box_names}
use Rattle.akl_model.specs.Derivations.{IsAnswer, AreAnswers}
use Rattle.step_commit.specs.Cores.{TableIn}
use Rattle.tree_models.specs.declared.model.TreeModel.{TreeModel}
use Rattle.root_answers.specs.Text.{IsTextOf}
use Rattle.root_answers.specs.Roots.{symbols_of, root_box, IsText}
use Rattle.root_answers.specs.Models.{IsModelOf, HasModelText}
use Rattle.akl_run.specs.declared.evaluate.Evaluated.{Evaluated}
use Rattle.akl_run.specs.declared.output.Unwritten.{Unwritten}
use Rattle.akl_run.specs.Text.{IsShown, alone, with_model, numbered, AreTexts, no_answers, an_answer}
use Rattle.akl_run.specs.Outputs.{Outlet, HasAppended, HasBrokenOff, PartsOf}
use Rattle.akl_run.specs.Runs.{AreModels}
use Rattle.akl_run.specs.Evaluations.{HasModels}
use Rattle.akl_run.specs.Written.{MayShow, ShowsRoot, named, listed, AreAllTexts, AreFirstTexts, HasWrittenAnswers, ArePartsOfAnswers}
use Rattle.akl_run.proofs.Appended.{nothing_appended, appended_both, broke_later, no_memory_behind}
use Rattle.akl_run.proofs.RootBoxes.{take_boxes, take_every, AreParted, parted_answers, parted_others, At, root_at, of_root, MoreAnswers, first_answers}
use Rattle.akl_run.proofs.RootBoxes as root_boxes

-- ---- the lines of a root box
module _ (e : Evaluated) (name : Name) (before : ℕ) (text : List ℕ) (x : IsText e.core name (Some text)) where
  pub shown_alone : slice_get e.models.items before ≡ None → ShowsRoot e name before (Some text)
  shown_alone none t b gs f =
      let y : IsAnswer b gs × IsTextOf (symbols_of e.core) b text = x t b gs f in
      (y.0, λ may. subst (λ (o : Option TreeModel). IsShown (symbols_of e.core) b o text) (sym none) (alone y.1))

  pub shown_modelled : (m : TreeModel) (more : List ℕ) → slice_get e.models.items before ≡ Some m → HasModelText e.core name m more → ShowsRoot e name before (Some (text ++ more))
  shown_modelled m more some z t b gs f =
      let y : IsAnswer b gs × IsTextOf (symbols_of e.core) b text = x t b gs f in
      (y.0, λ may. subst (λ (o : Option TreeModel). IsShown (symbols_of e.core) b o (text ++ more)) (sym some) (with_model y.1 (z t b gs f (subst (MayShow b) some may))))

-- ---- the texts of the answers

-- the text of one more answer
module _ {symbols : List (List ℕ)} {models : List TreeModel} (b : Content) (lines : List ℕ) where
  texts_more : {n : ℕ} {bs : List Content} {text : List ℕ} → AreTexts symbols models n bs text → IsShown symbols b (slice_get models (n + length bs)) lines
      → AreTexts symbols models n (bs ++ b ∷ []) (text ++ numbered (suc (n + length bs)) lines)
  texts_more {n} no_answers s =
      let number : n ≡ n + 0 = omega arith in
      subst (λ (m : ℕ). IsShown symbols b (slice_get models m) lines → AreTexts symbols models n (b ∷ []) (numbered (suc m) lines)) number
      (λ x. subst (AreTexts symbols models n (b ∷ [])) (append-nil (numbered (suc n) lines)) (an_answer x no_answers)) s
  texts_more {n} (an_answer {b = a} {bs = as_} {text = text} {rest = rest} x more) s =
      let number : suc n + length as_ ≡ n + suc (length as_) = omega arith in
      let y : AreTexts symbols models (suc n) (as_ ++ b ∷ []) (rest ++ numbered (suc (n + suc (length as_))) lines) =
      subst (λ (m : ℕ). IsShown symbols b (slice_get models m) lines → AreTexts symbols models (suc n) (as_ ++ b ∷ []) (rest ++ numbered (suc m) lines)) number (texts_more more) s in
      subst (AreTexts symbols models n (a ∷ as_ ++ b ∷ [])) (sym (append_assoc (numbered (suc n) text) rest (numbered (suc (n + suc (length as_))) lines))) (an_answer x y)

-- one more name
named_more : (why : Bool) (others : List Found) (f : Found) (name : Name) → f.content.name ≡ name → named why (others ++ f ∷ []) ≡ named why others ++ listed why name
named_more true others f name e = map-append (λ (g : Found). g.content.name) others (f ∷ []) ∙ ap (λ (n : Name). map (λ (g : Found). g.content.name) others ++ n ∷ []) e
named_more false others f name e = refl

-- the first root boxes, gone through: their answers with these texts, and the names of the others
pub record Passed (e : Evaluated) (t : TableIn e.core) (n count : ℕ) (names : List Name) (text : List ℕ) : Type 0 where
  pub answers : List Content
  pub others : List Found
  pub parted : AreParted (take_boxes n t.config.roots) answers others
  pub counted : count ≡ length answers
  pub are_texts : AreTexts (symbols_of e.core) e.models.items 0 answers text
  pub are_named : names ≡ named e.flags.why others

abbrev pub HavePassed : Evaluated → ℕ → ℕ → List Name → List ℕ → Type 0
HavePassed e n count names text = (t : TableIn e.core) → Passed e t n count names text

no_names : (why : Bool) → [] ≡ named why []
no_names true = refl
no_names false = refl

pub passed_none : (e : Evaluated) → HavePassed e 0 0 [] []
passed_none e t = record { answers = []; others = []; parted = root_boxes.nothing; counted = refl; are_texts = no_answers; are_named = no_names e.flags.why }

-- the model of an answer stands in its place
model_in : (b : Content) (first left : List Content) (models : List TreeModel) → AllZip IsModelOf (first ++ b ∷ left) models → MayShow b (slice_get models (length first))
model_in b [] left [] z = absurd z
model_in b [] left (m ∷ ms) z = z.0
model_in b (a ∷ as_) left [] z = absurd z
model_in b (a ∷ as_) left (m ∷ ms) z = model_in b as_ left ms z.1

may_show : (asked : Bool) (b : Content) (first left : List Content) (models : List TreeModel) → AreModels asked (first ++ b ∷ left) models → MayShow b (slice_get models (length first))
may_show true b first left models z = model_in b first left models z
may_show false b first left models e = subst (λ (ms : List TreeModel). MayShow b (slice_get ms (length first))) (sym e) tt

module _ (e : Evaluated) (n : ℕ) (d : Name) (h : n < length e.core.table.roots) where
  pub passed_other : (count : ℕ) (names : List Name) (text : List ℕ) → HavePassed e n count names text → ShowsRoot e (get_or e.core.table.roots n d) count None
      → HavePassed e (n + 1) count (names ++ listed e.flags.why (get_or e.core.table.roots n d)) text
  passed_other count names text x shows t =
      let w : At t.config.roots n (get_or e.core.table.roots n d) = root_at e.core n d h t in
      let next : suc n ≡ n + 1 = omega arith in
      let y : Passed e t n count names text = x t in
      subst (λ (m : ℕ). Passed e t m count (names ++ listed e.flags.why (get_or e.core.table.roots n d)) text) next (record {
        answers = y.answers;
        others = y.others ++ root_box w.content w.goals ∷ [];
        parted = w.other y.answers y.others y.parted (of_root e.core n d h t (λ b gs. IsAnswer b gs → ⊥) w shows);
        counted = y.counted;
        are_texts = y.are_texts;
        are_named = ap (λ (ns : List Name). ns ++ listed e.flags.why (get_or e.core.table.roots n d)) y.are_named
            ∙ sym (named_more e.flags.why y.others (root_box w.content w.goals) (get_or e.core.table.roots n d) w.is_name);
      })

  pub passed_more : HasModels e.core e.flags.model e.models.items → (count : ℕ) (names : List Name) (text lines : List ℕ) → HavePassed e n count names text → ShowsRoot e (get_or e.core.table.roots n d) count (Some lines)
      → HavePassed e (n + 1) (count + 1) names (text ++ numbered (count + 1) lines)
  passed_more models count names text lines x shows t =
      let w : At t.config.roots n (get_or e.core.table.roots n d) = root_at e.core n d h t in
      let next : suc n ≡ n + 1 = omega arith in
      let y : Passed e t n count names text = x t in
      let a : IsAnswer w.content w.goals × (MayShow w.content (slice_get e.models.items count) → IsShown (symbols_of e.core) w.content (slice_get e.models.items count) lines) =
      of_root e.core n d h t (λ b gs. IsAnswer b gs × (MayShow b (slice_get e.models.items count) → IsShown (symbols_of e.core) b (slice_get e.models.items count) lines)) w shows in
      let counted : count ≡ length y.answers = y.counted in
      let number : suc (0 + length y.answers) ≡ count + 1 = omega (arith, counted) in
      let long : length (y.answers ++ w.content ∷ []) ≡ length y.answers + 1 = length-append y.answers (w.content ∷ []) in
      let parted : AreParted (take_boxes (suc n) t.config.roots) (y.answers ++ w.content ∷ []) y.others = w.more y.answers y.others y.parted a.0 in
      let more : MoreAnswers t.config.roots (y.answers ++ w.content ∷ []) = first_answers t.config.roots (suc n) (y.answers ++ w.content ∷ []) (parted_answers parted) in
      let all : AreAnswers t.config.roots (y.answers ++ w.content ∷ more.0) = subst (AreAnswers t.config.roots) (append_assoc y.answers (w.content ∷ []) more.0) more.1 in
      let may : MayShow w.content (slice_get e.models.items (length y.answers)) = may_show e.flags.model w.content y.answers more.0 e.models.items (models t (y.answers ++ w.content ∷ more.0) all) in
      let place : length y.answers ≡ 0 + length y.answers = omega arith in
      let shown : IsShown (symbols_of e.core) w.content (slice_get e.models.items (0 + length y.answers)) lines =
      subst (λ (m : ℕ). IsShown (symbols_of e.core) w.content (slice_get e.models.items m) lines) place
      (subst (λ (m : ℕ). MayShow w.content (slice_get e.models.items m) → IsShown (symbols_of e.core) w.content (slice_get e.models.items m) lines) counted a.1 may) in
      subst (λ (m : ℕ). Passed e t m (count + 1) names (text ++ numbered (count + 1) lines)) next (record {
        answers = y.answers ++ w.content ∷ [];
        others = y.others;
        parted = parted;
        counted = omega (arith, counted, long);
        are_texts = subst (λ (m : ℕ). AreTexts (symbols_of e.core) e.models.items 0 (y.answers ++ w.content ∷ []) (text ++ numbered m lines)) number (texts_more w.content lines y.are_texts shown);
        are_named = y.are_named;
      })

pub passed_every : (e : Evaluated) (n count : ℕ) (names : List Name) (text : List ℕ) → length e.core.table.roots ≤ n → HavePassed e n count names text → (t : TableIn e.core) → AreAllTexts e count names text t
passed_every e n count names text h x t =
    let y : Passed e t n count names text = x t in
    let l : length (box_names t.config.roots) ≤ n = subst (λ (ns : List Name). length ns ≤ n) t.unfolds.roots h in
    let parted : AreParted t.config.roots y.answers y.others = subst (λ (bs : Boxes). AreParted bs y.answers y.others) (take_every t.config.roots n l) y.parted in
    record {
      answers = y.answers;
      are_answers = parted_answers parted;
      counted = y.counted;
      are_texts = y.are_texts;
      others = y.others;
      are_others = parted_others parted;
      are_named = y.are_named;
    }

pub passed_first : (e : Evaluated) (n count : ℕ) (names : List Name) (text : List ℕ) → HavePassed e n count names text → (t : TableIn e.core) → AreFirstTexts e text t
passed_first e n count names text x t =
    let y : Passed e t n count names text = x t in
    let more : MoreAnswers t.config.roots y.answers = first_answers t.config.roots n y.answers (parted_answers y.parted) in
    record { first = y.answers; left = more.0; are_answers = more.1; are_texts = y.are_texts }

-- ---- what was written of them

-- the texts of the answers among the first root boxes were written
pub record HaveWritten (e : Evaluated) (n count : ℕ) (names : List Name) (before after : Outlet) : Type 0 where
  pub text : List ℕ
  pub appended : HasAppended before after text
  pub passed : HavePassed e n count names text

pub wrote_none : (e : Evaluated) (names : List Name) (before : Outlet) → names ≡ [] → HaveWritten e 0 0 names before before
wrote_none e names before none = record { text = []; appended = nothing_appended before; passed = subst (λ (ns : List Name). HavePassed e 0 0 ns []) (sym none) (passed_none e) }

module _ {e : Evaluated} {count : ℕ} {names : List Name} {before middle : Outlet} (n : ℕ) (d : Name) (h : n < length e.core.table.roots) where
  pub wrote_other : (all : List Name) → all ≡ names ++ listed e.flags.why (get_or e.core.table.roots n d) → HaveWritten e n count names before middle → ShowsRoot e (get_or e.core.table.roots n d) count None
      → HaveWritten e (n + 1) count all before middle
  wrote_other all is w shows = record {
    text = w.text;
    appended = w.appended;
    passed = subst (λ (ns : List Name). HavePassed e (n + 1) count ns w.text) (sym is) (passed_other e n d h count names w.text w.passed shows);
  }

  pub wrote_more : {after : Outlet} → HasModels e.core e.flags.model e.models.items → (lines : List ℕ) → HaveWritten e n count names before middle → ShowsRoot e (get_or e.core.table.roots n d) count (Some lines) → HasAppended middle after (numbered (count + 1) lines)
      → HaveWritten e (n + 1) (count + 1) names before after
  wrote_more models lines w shows x = record {
    text = w.text ++ numbered (count + 1) lines;
    appended = appended_both w.text (numbered (count + 1) lines) w.appended x;
    passed = passed_more e n d h models count names w.text lines w.passed shows;
  }

  pub broke_there : {after : Outlet} {cause : Unwritten} → HasModels e.core e.flags.model e.models.items → (lines : List ℕ) → HaveWritten e n count names before middle → ShowsRoot e (get_or e.core.table.roots n d) count (Some lines)
      → HasBrokenOff (PartsOf (numbered (count + 1) lines)) middle after cause → HasBrokenOff (ArePartsOfAnswers e) before after cause
  broke_there models lines w shows b =
      let passed : HavePassed e (n + 1) (count + 1) names (w.text ++ numbered (count + 1) lines) = passed_more e n d h models count names w.text lines w.passed shows in
      broke_later w.text w.appended (λ (front rest : List ℕ) p. record {
        are_texts = passed_first e (n + 1) (count + 1) names ((w.text ++ front) ++ rest)
            (subst (HavePassed e (n + 1) (count + 1) names) (ap (λ (xs : List ℕ). w.text ++ xs) (sym p) ∙ sym (append_assoc w.text front rest)) passed);
      }) b

pub wrote_every : {e : Evaluated} {n count : ℕ} {names : List Name} {before after : Outlet} → length e.core.table.roots ≤ n → HaveWritten e n count names before after → HasWrittenAnswers e names before after count
wrote_every {e} {n} {count} {names} h w = record { text = w.text; appended = w.appended; are_texts = passed_every e n count names w.text h w.passed }

pub no_memory_there : {e : Evaluated} {n count : ℕ} {names : List Name} {before after : Outlet} → HaveWritten e n count names before after → HasBrokenOff (ArePartsOfAnswers e) before after Unwritten.Memory
no_memory_there {e} {n} {count} {names} w =
    no_memory_behind w.text [] w.appended (record { are_texts = passed_first e n count names (w.text ++ []) (subst (HavePassed e n count names) (sym (append-nil w.text)) w.passed) })
