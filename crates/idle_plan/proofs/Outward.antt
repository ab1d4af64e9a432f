-- A box touches nothing of the boxes inside it, and a root box touches nothing.
use Rattle.std.proofs.Common.{◌≡◌, ◌<◌, List, [], ◌++◌, Some, subst, inl, inr, arith}
use Rattle.akl_terms.specs.declared.name.Name.{Name}
use Rattle.akl_terms.specs.declared.name.Var.{Var}
use Rattle.akl_terms.specs.Touching.{IsOutside, IsTied, Touches}
use Rattle.akl_model.specs.Config.{IsIn, Content, Config, Found, environment, whole, box_at}
use Rattle.akl_model.specs.Scopes.{nowhere}
use Rattle.akl_model.specs.Stable.{only, frames_of, frames_inside}
use Rattle.akl_model.specs.Wakes.{TellsOutside}
use Rattle.akl_model.proofs.Finds.{times}
use Rattle.akl_model.proofs.QuietGrows.{IsLocal-left}
use Rattle.akl_model.proofs.Scoped.{IsIn-either}
use Rattle.akl_model.proofs.ScopesAlong.{scope_along, frame_apart, frames_counted, local_in, in_local}
use Rattle.plan_laws.proofs.InScope.{Good, InScope, touched_scoped, tied_scoped}

module _ (c : Config) (w : Good c) (n : Name) (f : Found) (e : box_at n c.roots ≡ Some f) where
  -- a variable in scope that isn't the box's own isn't one of a box inside it
  outside_all : (x : Var) → InScope c w n f e x → IsOutside f.content.frames x → IsOutside (frames_of (only f)) x
  outside_all x h o l = elim (IsIn-either x.frame f.content.frames (scope_along nowhere f.around).frames h) [
    | inl i ↦ o (in_local f.content.frames x i)
    | inr i ↦
        let z : times x.frame (only f) ≡ 0 = frame_apart c.roots w.stand.once n f e x.frame i in
        let k : 0 < times x.frame (only f) = frames_counted x.frame (only f) (local_in (frames_of (only f)) x l) in
        omega arith
  ]

  pub outward : (x : Var) → Touches f.content.frames (environment f) (whole f) x → TellsOutside f x
  outward x t = record {
    unbound = record { outside = outside_all x (touched_scoped c w n f e f.content.frames (environment f) x t) t.unbound.outside; unstructured = t.unbound.unstructured };
    told = elim t.told [ inl s ↦ inl s | inr k ↦ inr (k.0, tied k.0 k.1) ];
  }
    where
      tied : (y : Var) → IsTied f.content.frames (environment f) (whole f) x y → IsTied (frames_of (only f)) (environment f) (whole f) x y
      tied y k = record {
        other = record { outside = outside_all y (tied_scoped c w n f e f.content.frames (environment f) x y k) k.other.outside; unstructured = k.other.unstructured };
        equal = k.equal;
        apart = k.apart;
      }

  pub root_touches_nothing : f.around ≡ [] → (x : Var) → TellsOutside f x → ⊥
  root_touches_nothing r x t = elim (IsIn-either x.frame f.content.frames (scope_along nowhere f.around).frames (touched_scoped c w n f e (frames_of (only f)) (environment f) x t)) [
    | inl i ↦ t.unbound.outside (IsLocal-left f.content.frames (frames_inside f.goals ++ []) x (in_local f.content.frames x i))
    | inr i ↦ subst (λ (path : List Content). IsIn x.frame (scope_along nowhere path).frames) r i
  ]
