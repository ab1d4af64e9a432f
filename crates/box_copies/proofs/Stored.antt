-- Stores that are built one part after another.
use Rattle.std.proofs.Common.{◌≡◌, Bool, true, false, List, [], ◌∷◌, ◌++◌, map, refl, sym, ap, ◌∙◌, subst, ◌⊎◌, inl, inr, append_assoc, append-nil}
use Rattle.std.specs.Prelude.{if◌then◌else◌}
use Rattle.std.specs.Ordering.{match_ordering}
use Rattle.std.specs.declared.cmp.Ordering.{Ordering}
use Rattle.std.specs.BTreeMap.{insert_entry}
use Rattle.akl_terms.specs.declared.name.Name.{Name}
use Rattle.akl_terms.specs.declared.name.Var.{Var}
use Rattle.akl_terms.specs.declared.term.Node.{Node}
use Rattle.akl_terms.specs.declared.term.Term.{Term}
use Rattle.akl_terms.specs.Tree.{Tree}
use Rattle.akl_terms.specs.Equal.{IsTold}
use Rattle.akl_terms.specs.Names.{name_cmp}
use Rattle.akl_model.specs.Ordered.{IsIncreasing}
use Rattle.constraint_laws.specs.StandingGrows.{AreToldIn}
use Rattle.rational_unify.specs.Solving.{bindings_in}
use Rattle.local_store.specs.Stored.{Stored, nothing, made_of, all_named, var_before, joined, joins, with_frame, with_port, with_bindings}
use Rattle.box_copies.specs.Renamer.{with_frames, with_ports}
use Rattle.box_copies.proofs.Orders.{named_last, after_all, before_last}

abbrev firsts : List (Name × Term) → List Name
firsts ps = map (λ (p : Name × Term). p.0) ps

-- one more part

pub frames_more : (s : Stored) (ns : List Name) (n : Name) → with_frames s (ns ++ n ∷ []) ≡ with_frame (with_frames s ns) n
frames_more s [] n = refl
frames_more s (m ∷ ns) n = frames_more (with_frame s m) ns n

pub ports_more : (s : Stored) (ps : List (Name × Term)) (p : Name × Term) → with_ports s (ps ++ p ∷ []) ≡ with_port (with_ports s ps) p.0 p.1
ports_more s [] p = refl
ports_more s (q ∷ ps) p = ports_more (with_port s q.0 q.1) ps p

-- the other parts stay

pub frames_ports : (s : Stored) (ns : List Name) → (with_frames s ns).ports ≡ s.ports
frames_ports s [] = refl
frames_ports s (n ∷ ns) = frames_ports (with_frame s n) ns

pub frames_bindings : (s : Stored) (ns : List Name) → (with_frames s ns).bindings ≡ s.bindings
frames_bindings s [] = refl
frames_bindings s (n ∷ ns) = frames_bindings (with_frame s n) ns

pub ports_frames : (s : Stored) (ps : List (Name × Term)) → (with_ports s ps).frames ≡ s.frames
ports_frames s [] = refl
ports_frames s (p ∷ ps) = ports_frames (with_port s p.0 p.1) ps

pub ports_bindings : (s : Stored) (ps : List (Name × Term)) → (with_ports s ps).bindings ≡ s.bindings
ports_bindings s [] = refl
ports_bindings s (p ∷ ps) = ports_bindings (with_port s p.0 p.1) ps

-- frames and ports that come in increasing order

frames_from : (s : Stored) (xs ns : List Name) → s.frames ≡ xs → IsIncreasing (xs ++ ns) → (with_frames s ns).frames ≡ xs ++ ns
frames_from s xs [] e h = e ∙ sym (append-nil xs)
frames_from s xs (n ∷ ns) e h =
    let parts : xs ++ n ∷ ns ≡ (xs ++ n ∷ []) ++ ns = sym (append_assoc xs (n ∷ []) ns) in
    frames_from (with_frame s n) (xs ++ n ∷ []) ns (subst (λ (l : List Name). (with_frame s n).frames ≡ l) (named_last xs ns n h) (ap (λ (l : List Name). (with_frame (record s { frames = l }) n).frames) e)) (subst IsIncreasing parts h) ∙ sym parts

pub frames_are : (s : Stored) (ns : List Name) → s.frames ≡ [] → IsIncreasing ns → (with_frames s ns).frames ≡ ns
frames_are s ns e h = frames_from s [] ns e h

firsts_append : (ps qs : List (Name × Term)) → firsts (ps ++ qs) ≡ firsts ps ++ firsts qs
firsts_append [] qs = refl
firsts_append (p ∷ ps) qs = ap (λ (l : List Name). p.0 ∷ l) (firsts_append ps qs)

port_last : (xs : List (Name × Term)) (ys : List Name) (p : Name × Term) → IsIncreasing (firsts xs ++ p.0 ∷ ys) → insert_entry name_cmp xs p.0 p.1 ≡ xs ++ p ∷ []
port_last [] ys p o = refl
port_last (x ∷ xs) ys p o = on (name_cmp p.0 x.0) (after_all x.0 p.0 (before_last x.0 p.0 (firsts xs) ys o.0)) (port_last xs ys p o.1)
  where
    on : (c : Ordering) → c ≡ Ordering.Greater → insert_entry name_cmp xs p.0 p.1 ≡ xs ++ p ∷ []
        → match_ordering c ((p.0, p.1) ∷ x ∷ xs) ((x.0, p.1) ∷ xs) (x ∷ insert_entry name_cmp xs p.0 p.1) ≡ x ∷ (xs ++ p ∷ [])
    on Ordering.Less e r = cc
    on Ordering.Equal e r = cc
    on Ordering.Greater e r = ap (λ (l : List (Name × Term)). x ∷ l) r

ports_from : (s : Stored) (xs ps : List (Name × Term)) → s.ports ≡ xs → IsIncreasing (firsts xs ++ firsts ps) → (with_ports s ps).ports ≡ xs ++ ps
ports_from s xs [] e h = e ∙ sym (append-nil xs)
ports_from s xs (p ∷ ps) e h =
    let parts : xs ++ p ∷ ps ≡ (xs ++ p ∷ []) ++ ps = sym (append_assoc xs (p ∷ []) ps) in
    let names : firsts xs ++ p.0 ∷ firsts ps ≡ firsts (xs ++ p ∷ []) ++ firsts ps = sym (append_assoc (firsts xs) (p.0 ∷ []) (firsts ps)) ∙ ap (λ (l : List Name). l ++ firsts ps) (sym (firsts_append xs (p ∷ []))) in
    ports_from (with_port s p.0 p.1) (xs ++ p ∷ []) ps (subst (λ (l : List (Name × Term)). (with_port s p.0 p.1).ports ≡ l) (port_last xs (firsts ps) p h) (ap (λ (l : List (Name × Term)). insert_entry name_cmp l p.0 p.1) e))
    (subst IsIncreasing names h) ∙ sym parts

pub ports_are : (s : Stored) (ps : List (Name × Term)) → s.ports ≡ [] → IsIncreasing (firsts ps) → (with_ports s ps).ports ≡ ps
ports_are s ps e h = ports_from s [] ps e h

-- ports behind bindings

pub ports_behind : (s : Stored) (bs : List (Var × Term)) (ps : List (Name × Term)) → with_ports (with_bindings s bs) ps ≡ with_bindings (with_ports s ps) bs
ports_behind s bs [] = refl
ports_behind s bs (p ∷ ps) = ports_behind (with_port s p.0 p.1) bs ps

-- frames and bindings that a store is made of

named_all : (s : Stored) (ns : List Name) → with_frames s ns ≡ record { frames = all_named s.frames ns; bindings = s.bindings; ports = s.ports }
named_all s [] = refl
named_all s (n ∷ ns) = named_all (with_frame s n) ns

pub made_bound : (ns : List Name) (bs : List (Var × Term)) → made_of ns bs ≡ with_bindings (with_frames nothing ns) bs
made_bound ns bs = ap (λ (s : Stored). with_bindings s bs) (sym (named_all nothing ns))

-- bindings that come tell the same in any order

module _ (nodes : List Node) (l r : Tree) where
  abbrev Tells : List (Var × Term) → Type 0
  Tells bs = IsTold (bindings_in nodes bs) l r

  joined_to : (bs : List (Var × Term)) (x : Var) (t : Term) → Tells ((x, t) ∷ bs) → Tells (joined bs x t)
  joined_to [] x t h = h
  joined_to (b ∷ bs) x t h = on (var_before x b.0) h (joined_to bs x t)
    where
      on : (v : Bool) → Tells ((x, t) ∷ b ∷ bs) → (Tells ((x, t) ∷ bs) → Tells (joined bs x t)) → Tells (if v then (x, t) ∷ b ∷ bs else b ∷ joined bs x t)
      on true h f = h
      on false (inl e) f = inr (f (inl e))
      on false (inr (inl e)) f = inl e
      on false (inr (inr m)) f = inr (f (inr m))

  joined_back : (bs : List (Var × Term)) (x : Var) (t : Term) → Tells (joined bs x t) → Tells ((x, t) ∷ bs)
  joined_back [] x t h = h
  joined_back (b ∷ bs) x t h = on (var_before x b.0) h (joined_back bs x t)
    where
      on : (v : Bool) → Tells (if v then (x, t) ∷ b ∷ bs else b ∷ joined bs x t) → (Tells (joined bs x t) → Tells ((x, t) ∷ bs)) → Tells ((x, t) ∷ b ∷ bs)
      on true h f = h
      on false (inl e) f = inr (inl e)
      on false (inr m) f = elim (f m) [ inl e ↦ inl e | inr k ↦ inr (inr k) ]

  joins_old : (bs cs : List (Var × Term)) → Tells bs → Tells (joins bs cs)
  joins_old bs [] h = h
  joins_old bs (c ∷ cs) h = joins_old (joined bs c.0 c.1) cs (joined_to bs c.0 c.1 (inr h))

  joins_new : (bs cs : List (Var × Term)) → Tells cs → Tells (joins bs cs)
  joins_new bs [] h = absurd h
  joins_new bs (c ∷ cs) (inl e) = joins_old (joined bs c.0 c.1) cs (joined_to bs c.0 c.1 (inl e))
  joins_new bs (c ∷ cs) (inr m) = joins_new (joined bs c.0 c.1) cs m

  joins_back : (bs cs : List (Var × Term)) → Tells (joins bs cs) → Tells bs ⊎ Tells cs
  joins_back bs [] h = inl h
  joins_back bs (c ∷ cs) h = elim (joins_back (joined bs c.0 c.1) cs h) [
    | inr m ↦ inr (inr m)
    | inl m ↦ elim (joined_back bs c.0 c.1 m) [ inl e ↦ inr (inl e) | inr k ↦ inl k ]
  ]

pub joins_told : (nodes : List Node) (cs : List (Var × Term)) → AreToldIn (bindings_in nodes cs) (bindings_in nodes (joins [] cs))
joins_told nodes cs = record { each = λ l r h. joins_new nodes l r [] cs h }

pub told_joins : (nodes : List Node) (cs : List (Var × Term)) → AreToldIn (bindings_in nodes (joins [] cs)) (bindings_in nodes cs)
told_joins nodes cs = record { each = λ l r h. elim (joins_back nodes l r [] cs h) [ inl m ↦ absurd m | inr m ↦ m ] }
