-- What a view shows of a core at whose box it looks.
use Rattle.std.proofs.Common.{ℕ, List, Option, sym, subst}
use Rattle.akl_terms.specs.declared.name.Name.{Name}
use Rattle.akl_terms.specs.declared.name.Place.{Place}
use Rattle.akl_model.specs.declared.label.Label.{Label}
use Rattle.box_tree.specs.declared.inside.Inside.{Inside}
use Rattle.box_tree.specs.Tables.{TableValue, table_of}
use Rattle.box_tree.specs.Views.{ViewValue}
use Rattle.box_tree.specs.Insides.{IsInsideOf, IsCandidateOf}
use Rattle.box_copies.specs.Copies.{IsInsideOfBox}
use Rattle.step_commit.specs.Cores.{CoreValue}
use Rattle.place_steps.specs.Seen.{IsSight, HasCandidate, IsStillAt, IsStillIn}

module _ (c : CoreValue) (name : Name) (worker : ℕ) (v : ViewValue) (s : IsSight c (Place.Box name) worker v) where
  pub has_candidate : (alternative : Option Name) → IsCandidateOf (table_of c.table) name alternative → HasCandidate v alternative
  has_candidate alternative h = record { name = name; is_box = s.is_place; candidate = subst (λ (t : TableValue). IsCandidateOf (table_of t) name alternative) (sym s.table) h }

  pub inside_of : (i : Inside) → IsInsideOf c.table c.journal name worker i → IsInsideOfBox v i
  inside_of i h = record {
    name = name;
    place = s.is_place;
    inside = subst (λ (t : TableValue). IsInsideOf t v.journal name v.worker i) (sym s.table) (subst (λ (j : List Label). IsInsideOf c.table j name v.worker i) (sym s.journal) (subst (λ (w : ℕ). IsInsideOf c.table c.journal name w i) (sym s.seer) h));
  }

  pub still_at : IsStillIn c (Place.Box name) → IsStillAt v.table v.journal v.place
  still_at h = subst (λ (p : Place). IsStillAt v.table v.journal p) (sym s.is_place) (subst (λ (t : TableValue). IsStillAt t v.journal (Place.Box name)) (sym s.table) (subst (λ (j : List Label). IsStillAt c.table j (Place.Box name)) (sym s.journal) h))
