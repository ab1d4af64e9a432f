-- The outermost boxes around a box before and after labels: one box, whose equations grow.
use Rattle.std.proofs.Common.{◌≡◌, List, [], ◌∷◌, ◌++◌, map, Some, sym, ◌∙◌, ap, subst, inl, refl}
use Rattle.akl_terms.specs.declared.name.Name.{Name}
use Rattle.akl_terms.specs.declared.program.Program.{Program}
use Rattle.akl_terms.specs.Equal.{Equations, IsTold, told, Follows}
use Rattle.akl_terms.proofs.EqualLaws.{IsTold-left}
use Rattle.akl_model.specs.declared.label.Rule.{Rule}
use Rattle.akl_model.specs.declared.label.Label.{Label}
use Rattle.akl_model.specs.Config.{IsIn, Content, Config, Found, equations_of, whole, box_at}
use Rattle.akl_model.specs.Wakes.{names_down_to}
use Rattle.step_laws.specs.Bound.{first_equations, outermost_equations}
use Rattle.step_laws.specs.Likeness.{IsLike}
use Rattle.step_laws.specs.Stays.{GoesOn}
use Rattle.step_laws.proofs.Deeper.{names_snoc}
use Rattle.step_laws.proofs.StaysLaws.{like, equations_grow}
use Rattle.plan_laws.proofs.Replayed.{good_replay}
use Rattle.reading_laws.specs.Unchanged.{path_to}
use Rattle.reading_laws.proofs.Outermost.{HasFirst, first_box}
use Rattle.reading_laws.proofs.Steps.{path_whole}
use Rattle.reading_laws.proofs.Untouched.{good_later}

abbrev pub first_found : {c : Config} {f : Found} → HasFirst c f → Found
first_found h = record { around = []; content = h.content; goals = h.goals }

-- the outermost box's equations are told down to the box
pub first_follows : (c : Config) (f : Found) (h : HasFirst c f) → Follows h.content.equations (whole f)
first_follows c f h = record { each = λ {s} {t} m. told (subst (λ (E : Equations). IsTold E s t) (sym (ap equations_of h.path) ∙ path_whole f) (IsTold-left h.content.equations (equations_of h.rest) s t m)) }

pub first_outermost : (c : Config) (f : Found) (h : HasFirst c f) → outermost_equations f ≡ h.content.equations
first_outermost c f h = ap first_equations h.path

pub outermost_follows : (c : Config) (f : Found) (h : HasFirst c f) → Follows (outermost_equations f) (whole f)
outermost_follows c f h = subst (λ (E : Equations). Follows E (whole f)) (sym (first_outermost c f h)) (first_follows c f h)

pub names_along : (f : Found) (b : Content) (rest : List Content) → path_to f ≡ b ∷ rest → names_down_to f ≡ b.name ∷ map (λ (b : Content). b.name) rest
names_along f b rest q = sym (names_snoc f.around f.content) ∙ ap (map (λ (b : Content). b.name)) q

pub first_named : (c : Config) (f : Found) (h : HasFirst c f) → IsIn h.content.name (names_down_to f)
first_named c f h = subst (IsIn h.content.name) (sym (names_along f h.content h.rest h.path)) (inl refl)

pub heads : {m n : Name} {ms ns : List Name} → m ∷ ms ≡ n ∷ ns → m ≡ n
heads q = cc

module _ (rules : List Rule) (p : Program) (c : Config) (ls : List Label) (d : Config) (w : GoesOn rules p c ls d) (n : Name) (f k : Found) (here : box_at n c.roots ≡ Some f) (there : box_at n d.roots ≡ Some k) where
  pub first_before : HasFirst c f
  first_before = first_box c (good_replay rules p w.query w.journal c w.replays) n f here

  pub first_now : HasFirst d k
  first_now = first_box d (good_later rules p c ls d w) n k there

  first_name : first_now.content.name ≡ first_before.content.name
  first_name = heads (sym (names_along k first_now.content first_now.rest first_now.path) ∙ sym all ∙ names_along f first_before.content first_before.rest first_before.path)
    where
      is_like : IsLike f k
      is_like = (like rules p c ls d w).0 n f k here there

      all : names_down_to f ≡ names_down_to k
      all = λ i. is_like.around i ++ is_like.name i ∷ []

  pub first_there : box_at first_before.content.name d.roots ≡ Some (first_found first_now)
  first_there = subst (λ (m : Name). box_at m d.roots ≡ Some (first_found first_now)) first_name first_now.found

  pub first_grows : Follows first_before.content.equations first_now.content.equations
  first_grows = record { each = λ {s} {t} m. told (equations_grow rules p c ls d w first_before.content.name (first_found first_before) (first_found first_now) first_before.found first_there s t m) }

  pub outermost_grows : Follows (outermost_equations f) (outermost_equations k)
  outermost_grows = subst (λ (E : Equations). Follows E (outermost_equations k)) (sym (first_outermost c f first_before))
      (subst (λ (E : Equations). Follows first_before.content.equations E) (sym (first_outermost d k first_now)) first_grows)
