-- A plan of Split is right, and where none is made, Split doesn't apply.
use Rattle.std.proofs.Common.{◌≡◌, ℕ, ◌<◌, ◌^◌, List, [], ◌++◌, length, Some, refl, sym, ◌∙◌, ap, subst}
use Rattle.std.specs.Prelude.{slice_index}
use Rattle.akl_terms.specs.declared.name.Name.{Name}
use Rattle.akl_terms.specs.declared.name.Place.{Place}
use Rattle.akl_model.specs.declared.item.Item.{Item}
use Rattle.akl_model.specs.declared.label.Rule.{Rule}
use Rattle.akl_model.specs.declared.label.Label.{Label}
use Rattle.akl_model.specs.Config.{a_choice, with_content}
use Rattle.akl_model.specs.Rules.{nothing, alone, with_alternatives, second_copy, first_of, Change, choice_with, split_at, change_by}
use Rattle.akl_model.specs.Renaming.{sorted_names}
use Rattle.akl_model.specs.Conditions as conditions
use Rattle.akl_model.specs.Stable.{IsStable, IsSplitPoint, Allows}
use Rattle.akl_model.specs.Derivations.{Applies, after}
use Rattle.akl_model.specs.Wakes.{names_around}
use Rattle.akl_model.proofs.Options.{and_some}
use Rattle.table_laws.specs.Steps.{rest_of}
use Rattle.table_laws.proofs.CopiesMade.{names_are}
use Rattle.box_tree.specs.declared.step.Step.{Step}
use Rattle.box_tree.specs.declared.inside.InnerBox.{InnerBox}
use Rattle.box_tree.specs.Tables.{all_rules, table_of}
use Rattle.box_tree.specs.Views.{ViewValue, IsViewOf, run_of}
use Rattle.box_tree.specs.Insides.{AreBoxesInside, IsCandidateOf}
use Rattle.box_tree.specs.Plans.{IsRightLabel}
use Rattle.box_tree.proofs.BoundHere.{kept_bound}
use Rattle.guard_plan.proofs.Sites.{stand}
use Rattle.box_copies.specs.declared.copying.Copied.{Copied}
use Rattle.box_copies.specs.Copies.{AreBoxesOf, IsSplitInto}
use Rattle.box_copies.proofs.Splits.{split_made, split_draws, split_solved}
use Rattle.box_tree.proofs.AllInForce.{each_in_force}
use Rattle.split_plan.specs.Split.{IsCandidate}
use Rattle.split_plan.specs.Read.{AreItemsAround, items_in}
use Rattle.split_plan.proofs.Candidates.{IsPoint}
use Rattle.split_plan.proofs.CandidateRows.{there, itself, candidate_point}
use Rattle.split_plan.proofs.Points.{split_point}
use Rattle.split_plan.proofs.ReadInside.{all_read, reads_there}

abbrev pub split_label : ViewValue → Name → Label
split_label v a = record { rule = Rule.Split; place = v.place; alternative = Some a; worker = v.worker }

module _ (v : ViewValue) (i : IsViewOf v) (n a : Name) (p : v.place ≡ Place.Box n) (q : IsPoint a i.site.goals) (stable : IsStable v.table.program i.site) (c : Copied) (x : IsSplitInto v a c) (few : c.names < 2 ^ 32) where
  point : IsSplitPoint i.site a q.among
  point = split_point v i a q stable

  abbrev change : Change
  change = record {
    boxes = first_of (with_alternatives i.site q.among (alone a q.among.alternatives)) (second_copy v.worker (slice_index i.table.config.next v.worker) (rest_of a i.site q.among));
    drawn = length (sorted_names (rest_of a i.site q.among));
  }

  drawn : c.names ≡ length (sorted_names (rest_of a i.site q.among))
  drawn = x.names ∙ ap (λ (ns : List Name). length ns)
      (names_are all_rules (run_of v.table v.journal) (table_of v.table) i.table v.worker x.name a i.site q.among (there v i x.name x.place) stable q.is_choice point x.old x.are_old)

  makes : conditions.Makes (Allows v.table.program) v.table.program (slice_index i.table.config.next v.worker) (split_label v a) i.site change
  makes = record {
    reading = nothing;
    change = subst (λ (z : Place). change_by v.table.program nothing v.worker (slice_index i.table.config.next v.worker) Rule.Split z (Some a) i.site ≡ Some change) (sym p)
        (ap (split_at v.worker (slice_index i.table.config.next v.worker) a i.site) q.is_choice);
    allowed = subst (λ (z : Place). Allows v.table.program nothing Rule.Split z (Some a) i.site) (sym p) (stable, and_some (IsSplitPoint i.site a) (choice_with a i.site.goals) q.among q.is_choice point);
    few_names = subst (λ (k : ℕ). k < 2 ^ 32) drawn few;
  }

  abbrev applies : Applies all_rules v.table.program i.table.config (split_label v a) (after i.table.config (split_label v a) i.site change)
  applies = record { in_force = each_in_force Rule.Split; site = i.site; is_site = i.is_site; change = change; makes = makes; result = refl }

  pub split_right : (boxes : List InnerBox) → AreBoxesInside v.table n boxes → (around : List Name) → around ≡ names_around i.site → (outer : List Item) → AreItemsAround v around outer
      → IsRightLabel (record { table = v.table; journal = v.journal; label = split_label v a; more = []; reads = outer ++ items_in boxes; names = c.names; step = Step.Split c.copy c.copies; binds = [] })
  split_right boxes h around is_around outer are_outer = record {
    table = i.table;
    result = after i.table.config (split_label v a) i.site change;
    applies = applies;
    makes = split_made v i a c x (split_label v a) (after i.table.config (split_label v a) i.site change) applies refl refl refl refl;
    solved = split_solved v i a c x (split_label v a) (after i.table.config (split_label v a) i.site change) applies refl refl refl refl;
    names = split_draws v i a c x (split_label v a) (after i.table.config (split_label v a) i.site change) applies refl refl refl refl;
    binds = kept_bound all_rules v.table.program i.table.config (split_label v a) (after i.table.config (split_label v a) i.site change) (stand v i) applies i.site.content
        (with_content q.among.name (a_choice q.among.op (alone a q.among.alternatives)) i.site.goals) (second_copy v.worker (slice_index i.table.config.next v.worker) (rest_of a i.site q.among)) refl refl;
    reads = all_read v i n (itself v i n p) boxes h around is_around outer are_outer;
    there = reads_there v i n (itself v i n p) boxes h around is_around outer are_outer;
  }

-- by what is asked of a call
pub split_planned : (v : ViewValue) (i : IsViewOf v) (a : Name) (k : IsCandidate v a) (boxes : List InnerBox) (h : AreBoxesOf v boxes) → IsStable v.table.program i.site → (c : Copied) → IsSplitInto v a c → c.names < 2 ^ 32
    → (around : List Name) → around ≡ names_around i.site → (outer : List Item) → AreItemsAround v around outer
    → IsRightLabel (record { table = v.table; journal = v.journal; label = split_label v a; more = []; reads = outer ++ items_in boxes; names = c.names; step = Step.Split c.copy c.copies; binds = [] })
split_planned v i a k boxes h stable c x few around is_around outer are_outer =
    split_right v i h.name a h.place (candidate_point v i h.name h.place a (subst (λ (m : Name). IsCandidateOf (table_of v.table) m (Some a)) same k.candidate)) stable c x few boxes h.boxes around is_around outer are_outer
  where
    same : k.name ≡ h.name
    same = let e : Place.Box k.name ≡ Place.Box h.name = sym k.place ∙ h.place in cc
