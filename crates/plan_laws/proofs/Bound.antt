-- What a call binds.
use Rattle.std.proofs.Common.{◌≡◌, ◌≢◌, ℕ, List, Some, refl, sym, ◌∙◌, ap, subst}
use Rattle.akl_terms.specs.declared.name.Name.{Name}
use Rattle.akl_terms.specs.declared.name.Var.{Var}
use Rattle.constraint_laws.specs.Bound.{IsNewlyBound}
use Rattle.akl_model.specs.Config.{Atom, Operator, Content, Boxes, Config, an_atom, held_in, Found, whole, box_at, home_of}
use Rattle.akl_model.specs.Names.{HasDistinctNames}
use Rattle.akl_model.specs.Changes.{Binds}
use Rattle.akl_model.proofs.Options.{some_value}
use Rattle.plan_laws.specs.Between.{with_choice, choosing}
use Rattle.plan_laws.proofs.Between.{stand_of, was_found, found}

-- the same is bound from two configurations that have boxes of the same equations around and in a box
pub binds_from : (c m d : Config) (n : Name) (e f : Found) → box_at n c.roots ≡ Some e → box_at n m.roots ≡ Some f → e.content ≡ f.content → whole e ≡ whole f → (v : Var) → Binds c d n v → Binds m d n v
binds_from c m d n e f i j same all v y =
    let q : y.adds.before ≡ e = some_value (sym y.adds.was ∙ i) in
    record {
      adds = record {
        before = f;
        afterwards = y.adds.afterwards;
        was = j;
        is = y.adds.is;
        more = subst (λ (b : Content). y.adds.afterwards.content.equations ≢ b.equations) (ap (λ (u : Found). u.content) q ∙ same) y.adds.more;
      };
      consistent = y.consistent;
      newly_bound = subst (λ (E : _). IsNewlyBound E (whole y.adds.afterwards) v) (ap whole q ∙ all) y.newly_bound;
    }

pub net_binds : (c : Config) → HasDistinctNames c → (g : Name) (f : Found) → home_of g c.roots ≡ Some f → (x : Atom) → held_in g f.goals ≡ Some (an_atom x) → (o : Operator) (bs : Boxes) (next : List ℕ) → HasDistinctNames (choosing c f g o bs next)
    → (d : Config) (v : Var) → (Binds c d f.content.name v → Binds (choosing c f g o bs next) d f.content.name v) × (Binds (choosing c f g o bs next) d f.content.name v → Binds c d f.content.name v)
net_binds c h g f is_home x held o bs next k d v = (
  binds_from c (choosing c f g o bs next) d f.content.name f (with_choice f g o bs) was is refl refl v,
  binds_from (choosing c f g o bs next) c d f.content.name (with_choice f g o bs) f is was refl refl v,
)
  where
    was : box_at f.content.name c.roots ≡ Some f
    was = was_found c (stand_of c h) g f is_home

    is : box_at f.content.name (choosing c f g o bs next).roots ≡ Some (with_choice f g o bs)
    is = found c (stand_of c h) g f is_home x held o bs next (stand_of (choosing c f g o bs next) k)
