-- In a root box no variable is bound that is external to it.
use Rattle.std.proofs.Common.{◌≡◌, false, List, [], Option, Some, None, refl, sym, ap, subst, ◌∙◌, inl, inr}
use Rattle.std.specs.Prelude.{is_some, option_map}
use Rattle.akl_terms.specs.declared.name.Name.{Name}
use Rattle.akl_terms.specs.declared.name.Var.{Var}
use Rattle.akl_terms.specs.Equal.{Equations}
use Rattle.akl_terms.specs.Touching.{IsOutside}
use Rattle.constraint_laws.specs.Bound.{IsNewlyBound}
use Rattle.akl_model.specs.declared.label.Label.{Label}
use Rattle.akl_model.specs.Config.{IsIn, Content, Config, Found, whole, box_at}
use Rattle.akl_model.specs.Stable.{only, frames_of}
use Rattle.akl_model.specs.Scopes.{nowhere}
use Rattle.akl_model.proofs.Scoped.{IsIn-either}
use Rattle.akl_model.proofs.ScopesAlong.{scope_along}
use Rattle.akl_model.specs.Wakes.{holder_in}
use Rattle.akl_model.proofs.NamesKept.{replay-stands, box-itself}
use Rattle.step_laws.proofs.Holders.{unheld_around}
use Rattle.plan_laws.proofs.InScope.{Good, bound_scoped, own_inside}
use Rattle.table_laws.specs.Rows.{BoxRow}
use Rattle.table_laws.specs.Writes.{holder_in_row}
use Rattle.table_laws.specs.Unfolds.{IsBoxRow}
use Rattle.table_laws.specs.Stamped.{IsTableOf}
use Rattle.table_laws.proofs.Frame.{both_there}
use Rattle.box_tree.specs.Tables.{all_rules, TableValue, table_of}
use Rattle.box_tree.specs.Views.{run_of}
use Rattle.opened_places.specs.declared.around.Around.{Around}
use Rattle.opened_places.specs.declared.around.Holder.{Holder}

pub root_binds_inside : (c : Config) (w : Good c) (n : Name) (f : Found) → box_at n c.roots ≡ Some f → f.around ≡ [] → (E : Equations) (x : Var) → IsNewlyBound E (whole f) x → IsOutside (frames_of (only f)) x → ⊥
root_binds_inside c w n f found root E x bound out = elim (IsIn-either x.frame f.content.frames (scope_along nowhere f.around).frames (bound_scoped c w n f found E x bound)) [
  | inl i ↦ own_inside c w n f found x i out
  | inr i ↦ subst (λ (path : List Content). IsIn x.frame (scope_along nowhere path).frames) root i
]

-- a box that no choice holds by its row is a root box
pub unheld_root : (v : TableValue) (journal : List Label) (t : IsTableOf all_rules (run_of v journal) (table_of v)) (x : Around) (n : Name) → x.home ≡ n → option_map (λ (h : Holder). h.goal) x.holder ≡ holder_in_row ((table_of v).box_of x.home)
    → is_some x.holder ≡ false → (f : Found) → box_at n t.config.roots ≡ Some f → f.around ≡ []
unheld_root v journal t x n same held e f found =
    let w : (r : BoxRow) × ((table_of v).box_of n ≡ Some r) × IsBoxRow (table_of v) t.config.roots f r = both_there (IsBoxRow (table_of v) t.config.roots) (box_at n t.config.roots) ((table_of v).box_of n) f (t.unfolds.boxes n) found in
    unheld_around t.config.roots (replay-stands all_rules v.program v.query journal t.config t.replays).once n f found
    (ap (λ (m : Name). holder_in m t.config.roots) (box-itself n t.config.roots f found) ∙ sym w.2.holder ∙ ap holder_in_row (sym w.1) ∙ ap (λ (m : Name). holder_in_row ((table_of v).box_of m)) (sym same) ∙ sym held ∙ none_held x.holder e)
  where
    none_held : (o : Option Holder) → is_some o ≡ false → option_map (λ (h : Holder). h.goal) o ≡ None
    none_held None q = refl
    none_held (Some h) q = cc
