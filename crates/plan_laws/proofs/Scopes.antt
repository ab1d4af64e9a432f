-- Which variables are in scope at a place.
use Rattle.std.proofs.Common.{◌≡◌, List, [], ◌∷◌, ◌++◌, map, Some, refl, sym, subst, ◌⊎◌, inl, inr}
use Rattle.akl_terms.specs.declared.name.Name.{Name}
use Rattle.akl_terms.specs.declared.name.Var.{Var}
use Rattle.akl_terms.specs.declared.name.Place.{Place}
use Rattle.akl_model.specs.Config.{IsIn, Content, Goals, Config, Found, box_at, site_of}
use Rattle.akl_model.specs.Scopes.{nowhere}
use Rattle.akl_model.specs.Wakes.{names_around, names_down_to, IsAt, IsThere}
use Rattle.akl_model.proofs.NamesKept.{box-itself}
use Rattle.akl_model.proofs.Scoped.{IsIn-left, IsIn-right, IsIn-either}
use Rattle.akl_model.proofs.ScopesAlong.{scope_along}
use Rattle.step_laws.proofs.Whereabouts.{found_in}
use Rattle.step_laws.proofs.Deeper.{in_path, chain_at}
use Rattle.step_laws.proofs.There.{site_there}
use Rattle.plan_laws.proofs.InScope.{Good, InScope}
use Rattle.plan_laws.proofs.DownTo.{down_to}
use Rattle.plan_laws.specs.Waits.{IsScopedAt}
use Rattle.plan_laws.proofs.Frames.{along_home}

pub scoped_there : (c : Config) (place : Place) (x : Var) → IsScopedAt c place x → IsThere place c.roots
scoped_there c place x s = let u : (f : Found) × (site_of place c.roots ≡ Some f) × IsIn s.home.content.name (names_down_to f) = down_to s.home.content.name c.roots place s.is_at in site_there place c.roots u.0 u.1

module _ (c : Config) (w : Good c) (place : Place) (n : Name) (f : Found) (e : box_at n c.roots ≡ Some f) (x : Var) where
  -- a frame of a box around one that is the place, or around it
  pub around_scoped : ((m : Name) → IsIn m (names_around f) → IsAt m c.roots place) → IsIn x.frame (scope_along nowhere f.around).frames → IsScopedAt c place x
  around_scoped up h = on (along_home x.frame nowhere f.around h)
    where
      on : IsIn x.frame [] ⊎ ((A : List Content) × (b : Content) × (B : List Content) × (f.around ≡ A ++ b ∷ B) × IsIn x.frame b.frames) → IsScopedAt c place x
      on (inl i) = absurd i
      on (inr (A, b, B, q, i)) =
          let k : (k : Goals) × (box_at b.name c.roots ≡ Some (record { around = A; content = b; goals = k })) = chain_at c.roots w.stand.once f A b B (found_in n c.roots f e) q in
          record {
            home = record { around = A; content = b; goals = k.0 };
            is_found = k.1;
            is_at = up b.name (subst (λ (L : List Content). IsIn b.name (map (λ (u : Content). u.name) L)) (sym q) (in_path A b B));
            frame = i;
          }

  -- or of that box
  pub in_scoped : ((m : Name) → IsIn m (names_down_to f) → IsAt m c.roots place) → InScope c w n f e x → IsScopedAt c place x
  in_scoped up h = elim (IsIn-either x.frame f.content.frames (scope_along nowhere f.around).frames h) [
    | inl i ↦ record {
      home = f;
      is_found = subst (λ (m : Name). box_at m c.roots ≡ Some f) (box-itself n c.roots f e) e;
      is_at = up f.content.name (IsIn-right f.content.name (names_around f) (f.content.name ∷ []) (inl refl));
      frame = i;
    }
    | inr i ↦ around_scoped (λ m k. up m (IsIn-left m (names_around f) (f.content.name ∷ []) k)) i
  ]
