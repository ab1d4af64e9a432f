-- What solved alternatives have together: which names it has, and over which frames its terms are.
use Rattle.std.proofs.Common.{◌≡◌, ℕ, zero, suc, ◌+◌, ◌≤◌, List, [], ◌∷◌, ◌++◌, Option, Some, None, refl, sym, ap, subst, inl, inr, arith}
use Rattle.std.specs.Prelude.{slice_get, ⊤}
use Rattle.std.proofs.lemmas.List.{map-append}
use Rattle.akl_terms.specs.declared.name.Name.{Name}
use Rattle.akl_terms.specs.declared.term.Node.{Node}
use Rattle.akl_terms.specs.declared.program.Program.{Program}
use Rattle.akl_terms.specs.Tree.{Tree}
use Rattle.akl_terms.specs.Names.{same_name}
use Rattle.akl_model.specs.Config.{IsIn, Content, Boxes, no_boxes, box, Goals, no_goals, atom, choice, Port}
use Rattle.akl_model.specs.Instances.{term_at}
use Rattle.akl_model.specs.Renaming.{port_names}
use Rattle.akl_model.specs.Rules.{count_of, symbol_at, with_collected, gathered}
use Rattle.akl_model.specs.Names.{one_if, times_in}
use Rattle.akl_model.specs.Scopes.{Scope, scope_in, IsScoped, TermScopedIf, TailsScoped}
use Rattle.akl_model.specs.Owned.{own_in, ContentOwned, BoxesOwned}
use Rattle.akl_model.proofs.Finds.{times, times_in-append}
use Rattle.akl_model.proofs.Drawn.{drawn_times, drawn-append}
use Rattle.akl_model.proofs.Options.{some_value}
use Rattle.akl_model.proofs.Scoped.{IsIn-left, IsIn-right, IsIn-either, Within, scoped_wider, equations_wider, atoms_wider, tails_wider, shown_wider, if_wider, equations_append, term_scoped}
use Rattle.akl_model.proofs.Owned.{boxes_wider}

-- the first alternative is solved and has a collected term, and what is behind it is gathered at the tail
pub record Gathers (p : Program) (w next : ℕ) (n : Name) (r : Tree) (a : Content) (bs : Boxes) (k : Content) : Type 0 where
  pub collected : Tree
  pub is_collected : a.collected ≡ Some collected
  pub rest : Content
  pub is_rest : gathered p w (next + 1) n (term_at p.templates.nodes (record { worker = w; number = next }) (p.cell + 1)) bs ≡ Some rest
  pub whole : record rest {
    frames = a.frames ++ record { worker = w; number = next } ∷ rest.frames;
    equations = a.equations ++ record { left = r; right = term_at p.templates.nodes (record { worker = w; number = next }) (p.cell + 2) }
        ∷ record { left = term_at p.templates.nodes (record { worker = w; number = next }) p.cell; right = collected } ∷ rest.equations;
    ports = a.ports ++ rest.ports;
  } ≡ k

pub gathers : (p : Program) (w next : ℕ) (n : Name) (r : Tree) (a : Content) (gs : Goals) (bs : Boxes) (k : Content) → gathered p w next n r (box a gs bs) ≡ Some k → (gs ≡ no_goals) × Gathers p w next n r a bs k
gathers p w next n r a no_goals bs k e = (refl, on a.collected refl (gathered p w (next + 1) n (term_at p.templates.nodes (record { worker = w; number = next }) (p.cell + 1)) bs) refl e)
  where
    on : (t : Option Tree) → a.collected ≡ t → (o : Option Content) → gathered p w (next + 1) n (term_at p.templates.nodes (record { worker = w; number = next }) (p.cell + 1)) bs ≡ o
        → with_collected p (record { worker = w; number = next }) r a t o ≡ Some k → Gathers p w next n r a bs k
    on (Some t) i (Some rest) j h = record { collected = t; is_collected = i; rest = rest; is_rest = j; whole = some_value h }
    on (Some t) i None j h = cc
    on None i o j h = cc
gathers p w next n r a (atom g b gs) bs k e = cc
gathers p w next n r a (choice g o cs gs) bs k e = cc

-- each of the alternatives is solved
abbrev pub AllSolved : Boxes → Type 0
AllSolved no_boxes = ⊤
AllSolved (box b gs bs) = (gs ≡ no_goals) × AllSolved bs

-- so it is where they are gathered
pub gathered_solved : (p : Program) (w next : ℕ) (n : Name) (r : Tree) (bs : Boxes) (a : Content) → gathered p w next n r bs ≡ Some a → AllSolved bs
gathered_solved p w next n r no_boxes a e = tt
gathered_solved p w next n r (box b gs bs) a e =
    let g : _ = gathers p w next n r b gs bs a e in
    (g.0, gathered_solved p w (next + 1) n _ bs g.1.rest g.1.is_rest)

append_port_names : (ps qs : List Port) → port_names (ps ++ qs) ≡ port_names ps ++ port_names qs
append_port_names ps qs = map-append (λ (p : Port). p.name) ps qs

-- its frames and ports are those of the alternatives, and one frame for each
pub gathered_few : (p : Program) (w next : ℕ) (n : Name) (r : Tree) (bs : Boxes) (k : Content) → gathered p w next n r bs ≡ Some k
    → (m : Name) → times_in m k.frames + times_in m (port_names k.ports) ≤ times m bs + drawn_times m w next (count_of bs)
gathered_few p w next n r no_boxes k e m = subst (λ (x : Content). times_in m x.frames + times_in m (port_names x.ports) ≤ 0 + 0) (some_value e) (omega arith)
gathered_few p w next n r (box a gs bs) k e m = on (gathers p w next n r a gs bs k e).1 (λ t l h. gathered_few p w (next + 1) n t bs l h m)
  where
    on : Gathers p w next n r a bs k
        → ((t : Tree) (l : Content) → gathered p w (next + 1) n t bs ≡ Some l → times_in m l.frames + times_in m (port_names l.ports) ≤ times m bs + drawn_times m w (next + 1) (count_of bs))
        → times_in m k.frames + times_in m (port_names k.ports) ≤ times m (box a gs bs) + drawn_times m w next (1 + count_of bs)
    on h f = subst (λ (x : Content). times_in m x.frames + times_in m (port_names x.ports) ≤ times m (box a gs bs) + drawn_times m w next (1 + count_of bs)) h.whole
        (let i : times_in m h.rest.frames + times_in m (port_names h.rest.ports) ≤ times m bs + drawn_times m w (next + 1) (count_of bs) =
        f (term_at p.templates.nodes (record { worker = w; number = next }) (p.cell + 1)) h.rest h.is_rest in
        let g : times_in m (a.frames ++ record { worker = w; number = next } ∷ h.rest.frames) ≡ times_in m a.frames + (one_if (same_name m (record { worker = w; number = next })) + times_in m h.rest.frames) =
        times_in-append m a.frames (record { worker = w; number = next } ∷ h.rest.frames) in
        let q : times_in m (port_names (a.ports ++ h.rest.ports)) ≡ times_in m (port_names a.ports ++ port_names h.rest.ports) = ap (times_in m) (append_port_names a.ports h.rest.ports) in
        let s : times_in m (port_names a.ports ++ port_names h.rest.ports) ≡ times_in m (port_names a.ports) + times_in m (port_names h.rest.ports) = times_in-append m (port_names a.ports) (port_names h.rest.ports) in
        let d : drawn_times m w next (1 + count_of bs) ≡ drawn_times m w next 1 + drawn_times m w (next + 1) (count_of bs) = drawn-append m w next 1 (count_of bs) in
        let o : drawn_times m w next 1 ≡ one_if (same_name m (record { worker = w; number = next })) + 0 = refl in
        omega arith)

symbol_scoped : (s : Scope) (o : Option Node) → IsScoped s (symbol_at o)
symbol_scoped s (Some (Node.Struct f first zero)) = tt
symbol_scoped s (Some (Node.Struct f first (suc k))) = tt
symbol_scoped s (Some (Node.Var i)) = tt
symbol_scoped s (Some (Node.Int z)) = tt
symbol_scoped s None = tt

tails_append : (s : Scope) (ps qs : List Port) → TailsScoped s ps → TailsScoped s qs → TailsScoped s (ps ++ qs)
tails_append s [] qs h k = k
tails_append s (p ∷ ps) qs h k = (h.0, tails_append s ps qs h.1 k)

-- its terms are over its own frames, and its equations also over those of the box around the alternatives
pub gathered_owned : (p : Program) (w next : ℕ) (n : Name) (r : Tree) (bs : Boxes) (k : Content) (s : Scope) → BoxesOwned s bs → IsScoped s r → gathered p w next n r bs ≡ Some k → ContentOwned s k
gathered_owned p w next n r no_boxes k s h i e = subst (ContentOwned s) (some_value e) (record {
  equations = (i, symbol_scoped (record { frames = s.frames; ports = s.ports }) (slice_get p.templates.nodes (p.cell + 3)), tt);
  tails = tt;
  body = tt;
  shown = tt;
  collected = tt;
})
gathered_owned p w next n r (box a gs bs) k s h i e = on (gathers p w next n r a gs bs k e).1 (λ t l u x y z. gathered_owned p w (next + 1) n t bs l u x y z)
  where
    on : Gathers p w next n r a bs k → ((t : Tree) (l : Content) (u : Scope) → BoxesOwned u bs → IsScoped u t → gathered p w (next + 1) n t bs ≡ Some l → ContentOwned u l) → ContentOwned s k
    on g further = subst (ContentOwned s) g.whole owned
      where
        frame : Name
        frame = record { worker = w; number = next }

        u : Scope
        u = record { frames = record { worker = w; number = next } ∷ s.frames; ports = s.ports }

        rest : ContentOwned (record { frames = record { worker = w; number = next } ∷ s.frames; ports = s.ports }) g.rest
        rest = further (term_at p.templates.nodes (record { worker = w; number = next }) (p.cell + 1)) g.rest (record { frames = record { worker = w; number = next } ∷ s.frames; ports = s.ports })
            (boxes_wider s (record { frames = record { worker = w; number = next } ∷ s.frames; ports = s.ports }) (record { frames = λ m x. inr x; ports = λ m x. x }) bs h.2)
            (term_scoped (record { frames = record { worker = w; number = next } ∷ s.frames; ports = s.ports }) p.templates.nodes (record { worker = w; number = next }) (p.cell + 1) (inl refl)) g.is_rest

        frames : List Name
        frames = a.frames ++ record { worker = w; number = next } ∷ g.rest.frames

        ports : List Name
        ports = port_names (a.ports ++ g.rest.ports)

        there : Scope
        there = record { frames = (a.frames ++ record { worker = w; number = next } ∷ g.rest.frames) ++ s.frames; ports = port_names (a.ports ++ g.rest.ports) ++ s.ports }

        own : Scope
        own = record { frames = a.frames ++ record { worker = w; number = next } ∷ g.rest.frames; ports = port_names (a.ports ++ g.rest.ports) ++ s.ports }

        in_frames : (m : Name) → IsIn m frames → IsIn m there.frames
        in_frames m x = IsIn-left m frames s.frames x

        first_frame : (m : Name) → IsIn m a.frames → IsIn m own.frames
        first_frame m x = IsIn-left m a.frames (record { worker = w; number = next } ∷ g.rest.frames) x

        mine : IsIn (record { worker = w; number = next }) own.frames
        mine = IsIn-right (record { worker = w; number = next }) a.frames (record { worker = w; number = next } ∷ g.rest.frames) (inl refl)

        last_frame : (m : Name) → IsIn m g.rest.frames → IsIn m own.frames
        last_frame m x = IsIn-right m a.frames (record { worker = w; number = next } ∷ g.rest.frames) (inr x)

        first_port : (m : Name) → IsIn m (port_names a.ports) → IsIn m ports
        first_port m x = subst (IsIn m) (sym (append_port_names a.ports g.rest.ports)) (IsIn-left m (port_names a.ports) (port_names g.rest.ports) x)

        last_port : (m : Name) → IsIn m (port_names g.rest.ports) → IsIn m ports
        last_port m x = subst (IsIn m) (sym (append_port_names a.ports g.rest.ports)) (IsIn-right m (port_names a.ports) (port_names g.rest.ports) x)

        first_ports : (m : Name) → IsIn m (port_names a.ports ++ s.ports) → IsIn m own.ports
        first_ports m x = elim (IsIn-either m (port_names a.ports) s.ports x) [ inl y ↦ IsIn-left m ports s.ports (first_port m y) | inr y ↦ IsIn-right m ports s.ports y ]

        last_ports : (m : Name) → IsIn m (port_names g.rest.ports ++ s.ports) → IsIn m own.ports
        last_ports m x = elim (IsIn-either m (port_names g.rest.ports) s.ports x) [ inl y ↦ IsIn-left m ports s.ports (last_port m y) | inr y ↦ IsIn-right m ports s.ports y ]

        wider : Within own there
        wider = record { frames = in_frames; ports = λ m x. x }

        all : Within s there
        all = record { frames = λ m x. IsIn-right m frames s.frames x; ports = λ m x. IsIn-right m ports s.ports x }

        first : Within (scope_in s a) there
        first = record {
          frames = λ m x. elim (IsIn-either m a.frames s.frames x) [ inl y ↦ in_frames m (first_frame m y) | inr y ↦ IsIn-right m frames s.frames y ];
          ports = first_ports;
        }

        first_own : Within (own_in s a) own
        first_own = record { frames = first_frame; ports = first_ports }

        last : Within (scope_in u g.rest) there
        last = record {
          frames = λ m x. elim (IsIn-either m g.rest.frames u.frames x) [
            | inl y ↦ in_frames m (last_frame m y)
            | inr y ↦ either m y
          ];
          ports = last_ports;
        }
          where
            either : (m : Name) → IsIn m (record { worker = w; number = next } ∷ s.frames) → IsIn m there.frames
            either m (inl y) = subst (λ (x : Name). IsIn x there.frames) (sym y) (in_frames (record { worker = w; number = next }) mine)
            either m (inr y) = IsIn-right m frames s.frames y

        last_own : Within (own_in u g.rest) own
        last_own = record { frames = last_frame; ports = last_ports }

        term : (j : ℕ) → IsScoped there (term_at p.templates.nodes (record { worker = w; number = next }) j)
        term j = term_scoped there p.templates.nodes (record { worker = w; number = next }) j (in_frames (record { worker = w; number = next }) mine)

        collected : IsScoped there g.collected
        collected = scoped_wider own there wider g.collected (scoped_wider (own_in s a) own first_own g.collected (subst (TermScopedIf (own_in s a)) g.is_collected h.0.collected))

        owned : ContentOwned s (record g.rest {
          frames = a.frames ++ record { worker = w; number = next } ∷ g.rest.frames;
          equations = a.equations ++ record { left = r; right = term_at p.templates.nodes (record { worker = w; number = next }) (p.cell + 2) }
              ∷ record { left = term_at p.templates.nodes (record { worker = w; number = next }) p.cell; right = g.collected } ∷ g.rest.equations;
          ports = a.ports ++ g.rest.ports;
        })
        owned = record {
          equations = equations_append there a.equations (record { left = r; right = term_at p.templates.nodes (record { worker = w; number = next }) (p.cell + 2) }
              ∷ record { left = term_at p.templates.nodes (record { worker = w; number = next }) p.cell; right = g.collected } ∷ g.rest.equations)
              (equations_wider (scope_in s a) there first a.equations h.0.equations)
              (scoped_wider s there all r i, term (p.cell + 2), (term p.cell, collected, equations_wider (scope_in u g.rest) there last g.rest.equations rest.equations));
          tails = tails_append own a.ports g.rest.ports (tails_wider (own_in s a) own first_own a.ports h.0.tails) (tails_wider (own_in u g.rest) own last_own g.rest.ports rest.tails);
          body = atoms_wider (own_in u g.rest) own last_own g.rest.body rest.body;
          shown = shown_wider (own_in u g.rest) own last_own g.rest.shown rest.shown;
          collected = if_wider (own_in u g.rest) own last_own g.rest.collected rest.collected;
        }
