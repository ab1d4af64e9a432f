-- A store takes the one binding by which an equation holds.
use Rattle.std.proofs.Common.{◌≡◌, true, List, [], ◌∷◌, ◌++◌, length, None, refl, sym, ap, subst, ◌∙◌, append-nil}
use Rattle.akl_terms.specs.declared.name.Var.{Var}
use Rattle.akl_terms.specs.declared.term.Node.{Node}
use Rattle.akl_terms.specs.declared.term.Term.{Term}
use Rattle.akl_terms.specs.declared.term.Equation as code
use Rattle.akl_terms.specs.Tree.{Tree}
use Rattle.akl_terms.specs.Equal.{IsConsistentBy}
use Rattle.akl_terms.specs.Standing.{StandFor}
use Rattle.akl_terms.specs.Template.{tree}
use Rattle.rational_unify.specs.Known.{found_in}
use Rattle.rational_unify.specs.Solving.{equations_in}
use Rattle.rational_unify.proofs.Chains.{found-none}
use Rattle.local_store.specs.declared.part.Part.{Part}
use Rattle.local_store.specs.Parts.{with_part, all_ports}
use Rattle.local_store.specs.Stored.{Stored, with_binding, all_named, joins}
use Rattle.rational_unify.specs.Older.{LeadOlder}
use Rattle.local_store.specs.Chained.{bindings_from, equations_of, innermost, around, replaced, ToldBy, BindOnce, IsSolvedChain}
use Rattle.local_store.specs.Bound.{AreNewlyBound, variable_in, bound_by}
use Rattle.local_store.specs.Telling.{ToldAlso, Tells, Adds, added}
use Rattle.local_store.proofs.Known.{joins-push}
use Rattle.local_store.proofs.Layers.{from-last, joins-found}
use Rattle.local_store.proofs.Replaced.{tells-adds, adds-bound, adds-says}
use Rattle.body_goals.specs.Takes.{within, Takes}
use Rattle.body_goals.specs.Binds.{Binds}

last_innermost : (ss : List Stored) (s : Stored) → innermost (ss ++ s ∷ []) ≡ s
last_innermost [] s = refl
last_innermost (r ∷ []) s = refl
last_innermost (r ∷ q ∷ ss) s = last_innermost (q ∷ ss) s

before_last : (ss : List Stored) (s : Stored) → around (ss ++ s ∷ []) ≡ ss
before_last [] s = refl
before_last (r ∷ []) s = refl
before_last (r ∷ q ∷ ss) s = ap (λ (l : List Stored). r ∷ l) (before_last (q ∷ ss) s)

module _ (nodes : List Node) (os : List Stored) (s : Stored) (f : IsSolvedChain nodes (within os s)) (e : code.Equation) (x : Var) (t : Term) (b : Binds nodes (within os s) e (x, t)) where
  abbrev ss : List Stored
  ss = within os s

  abbrev list : List Var
  list = bound_by nodes (bindings_from ss ++ (x, t) ∷ []) ((x, t) ∷ [])

  adds : Adds nodes (bindings_from ss) (e ∷ []) (innermost ss) (with_binding s x t) true list
  adds = added ((x, t) ∷ []) b.solution b.older (ap (λ (r : Stored). with_binding r x t) (sym (last_innermost os s))) refl refl

  list_is : list ≡ x ∷ variable_in (tree nodes t)
  list_is = ap (λ (u : Tree). x ∷ variable_in u ++ []) b.at_end ∙ ap (λ (l : List Var). x ∷ l) (append-nil (variable_in (tree nodes t)))

  whole : length ss ≡ length ss → (bindings_from ss ≡ bindings_from ss) × LeadOlder nodes (bindings_from ss) × BindOnce (bindings_from ss)
  whole q = (refl, f.older, f.once)

  consistent : IsConsistentBy (ToldAlso nodes ss (e ∷ []))
  consistent = (adds-says nodes ss (length ss) (bindings_from ss) (e ∷ []) (with_binding s x t) f.form whole true list adds).0 refl

  tells : Tells nodes ss (length ss) (e ∷ []) (with_binding s x t)
  tells = tells-adds nodes ss (length ss) (bindings_from ss) (e ∷ []) (with_binding s x t) f.form whole true list adds

  replaced_is : replaced ss (with_binding s x t) ≡ within os (with_binding s x t)
  replaced_is = ap (λ (l : List Stored). l ++ with_binding s x t ∷ []) (before_last os s)

  -- what isn't bound with one more binding wasn't before
  stays_unbound : (y : Var) → found_in (bindings_from (within os (with_binding s x t))) y ≡ None → found_in (bindings_from (within os s)) y ≡ None
  stays_unbound y h = ap (λ (l : List (Var × Term)). found_in l y) (from-last os s) ∙ (found-none (s.bindings ++ bindings_from os) ((x, t) ∷ []) y
      (sym (joins-found s.bindings (bindings_from os) ((x, t) ∷ []) (ap (λ (l : List (Var × Term)). found_in l x) (sym (from-last os s)) ∙ b.unbound.0, tt) y)
      ∙ ap (λ (l : List (Var × Term)). found_in l y) (sym (from-last os (with_binding s x t))) ∙ h)).0

  pub binding_takes : Takes nodes os s e (with_binding s x t) (x ∷ variable_in (tree nodes t))
  binding_takes = record {
    consistent = consistent;
    frames = refl;
    ports = refl;
    stands = subst (λ (l : List Stored). StandFor (ToldAlso nodes ss (e ∷ [])) (ToldBy nodes l)) replaced_is tells.stands;
    solved = subst (IsSolvedChain nodes) replaced_is (tells.solved refl consistent);
    newly_bound = subst (AreNewlyBound (equations_of nodes ss) (equations_of nodes ss) (equations_of nodes ss ++ equations_in nodes (e ∷ []))) list_is
        (adds-bound nodes ss (length ss) (bindings_from ss) (e ∷ []) (with_binding s x t) f.form whole true list adds);
    unbound = b.unbound;
    kept = stays_unbound;
  }

-- a part takes one binding more, and so does the store to which it is added
pub part_takes : (own : Stored) (old : Part) (bs : List (Var × Term)) (x : Var) (t : Term) → bs ≡ old.bindings.items ++ (x, t) ∷ []
    → record { frames = all_named own.frames old.frames.items; bindings = joins own.bindings bs; ports = all_ports own.ports old.ports.items } ≡ with_binding (with_part own old) x t
part_takes own old bs x t e =
    ap (λ (l : List (Var × Term)). record { frames = all_named own.frames old.frames.items; bindings = l; ports = all_ports own.ports old.ports.items })
    (ap (joins own.bindings) e ∙ joins-push own.bindings old.bindings.items (x, t))
