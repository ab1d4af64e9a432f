-- What a part makes of a store.
use Rattle.std.proofs.Common.{◌≡◌, ℕ, ◌-◌, ◌<◌, List, [], ◌∷◌, ◌++◌, length, drop, refl, sym, ap, ◌∙◌, slice_index_or, arith}
use Rattle.std.specs.BTreeMap.{insert_entry}
use Rattle.akl_terms.specs.declared.name.Name.{Name}
use Rattle.akl_terms.specs.declared.name.Var.{Var}
use Rattle.akl_terms.specs.declared.term.Term.{Term}
use Rattle.akl_terms.specs.Names.{name_cmp}
use Rattle.rational_unify.proofs.Taking.{drop-next}
use Rattle.local_store.specs.declared.part.Part.{Part}
use Rattle.local_store.specs.declared.frame_bindings.FrameBindings.{FrameBindings}
use Rattle.local_store.specs.Stored.{Stored, nothing, named, joined, joins, all_named, with_bindings}
use Rattle.local_store.specs.Kept.{value_of, frames_of, bindings_of}
use Rattle.local_store.specs.Telling.{somewhere, clashed}
use Rattle.local_store.specs.Parts.{all_ports, with_part, SameNames}
use Rattle.local_store.specs.Promoting.{named_too}

pub joins-append : (bs more further : List (Var × Term)) → joins bs (more ++ further) ≡ joins (joins bs more) further
joins-append bs [] further = refl
joins-append bs (c ∷ more) further = joins-append (joined bs c.0 c.1) more further

pub all_named-append : (ns more further : List Name) → all_named ns (more ++ further) ≡ all_named (all_named ns more) further
all_named-append ns [] further = refl
all_named-append ns (m ∷ more) further = all_named-append (named ns m) more further

-- one port before those that are put in
pub ports-next : (ps list new qs : List (Name × Term)) (left : ℕ) (d : Name × Term) → 0 < left → left - 1 < length qs → list ≡ all_ports ps (drop left qs)
    → new ≡ insert_entry name_cmp list (slice_index_or qs (left - 1) d).0 (slice_index_or qs (left - 1) d).1 → new ≡ all_ports ps (drop (left - 1) qs)
ports-next ps list new qs left d some h e n =
    n ∙ ap (λ (l : List (Name × Term)). insert_entry name_cmp l (slice_index_or qs (left - 1) d).0 (slice_index_or qs (left - 1) d).1) e
    ∙ ap (all_ports ps) (sym (drop-next qs (left - 1) left d h (omega arith)))

-- with further bindings
pub more-part : (p q : Part) (bs : List (Var × Term)) → SameNames p q → q.bindings.items ≡ p.bindings.items ++ bs → (s : Stored) → with_part s q ≡ with_bindings (with_part s p) bs
more-part p q bs same e s =
    ap (λ (ns : List Name). record { frames = all_named s.frames ns; bindings = joins s.bindings q.bindings.items; ports = all_ports s.ports q.ports.items }) same.0
    ∙ ap (λ (ps : List (Name × Term)). record { frames = all_named s.frames p.frames.items; bindings = joins s.bindings q.bindings.items; ports = all_ports s.ports ps }) same.1
    ∙ ap (λ (l : List (Var × Term)). record { frames = all_named s.frames p.frames.items; bindings = l; ports = all_ports s.ports p.ports.items })
    (ap (joins s.bindings) e ∙ joins-append s.bindings p.bindings.items bs)

-- with the frames and ports of another store
pub names-part : (p : Part) (s other : Stored) → p.frames.items ≡ other.frames → p.ports.items ≡ other.ports → p.bindings.items ≡ [] → with_part s p ≡ named_too s other
names-part p s other e f g =
    ap (λ (ns : List Name). record { frames = all_named s.frames ns; bindings = joins s.bindings p.bindings.items; ports = all_ports s.ports p.ports.items }) e
    ∙ ap (λ (ps : List (Name × Term)). record { frames = all_named s.frames other.frames; bindings = joins s.bindings p.bindings.items; ports = all_ports s.ports ps }) f
    ∙ ap (with_bindings (named_too s other)) g

pub nothing-part : (p : Part) → p.frames.items ≡ [] → p.ports.items ≡ [] → p.bindings.items ≡ [] → (s : Stored) → with_part s p ≡ s
nothing-part p e f g s = names-part p s nothing e f g

pub clash-part : (p q : Part) (left right : Term) → SameNames p q → q.bindings.items ≡ p.bindings.items ++ (somewhere, left) ∷ (somewhere, right) ∷ [] → (s : Stored) → with_part s q ≡ clashed (with_part s p) left right
clash-part p q left right same e s = more-part p q ((somewhere, left) ∷ (somewhere, right) ∷ []) same e s

-- a store to whose lists a part's lists are added
pub joined-part : (settled : List (Name × FrameBindings)) (frames all : List Name) (bindings list : List (Var × Term)) (ports set : List (Name × Term)) (p : Part)
    → all ≡ frames ++ p.frames.items → list ≡ bindings ++ p.bindings.items → set ≡ all_ports ports p.ports.items
    → value_of settled all list set ≡ with_part (value_of settled frames bindings ports) p
joined-part settled frames all bindings list ports set p e f g =
    ap (λ (ns : List Name). record { frames = ns; bindings = joins (bindings_of settled) list; ports = set }) (ap (all_named (frames_of settled)) e ∙ all_named-append (frames_of settled) frames p.frames.items)
    ∙ ap (λ (l : List (Var × Term)). record { frames = all_named (all_named (frames_of settled) frames) p.frames.items; bindings = l; ports = set })
    (ap (joins (bindings_of settled)) f ∙ joins-append (bindings_of settled) bindings p.bindings.items)
    ∙ ap (λ (ps : List (Name × Term)). record { frames = all_named (all_named (frames_of settled) frames) p.frames.items; bindings = joins (joins (bindings_of settled) bindings) p.bindings.items; ports = ps }) g
