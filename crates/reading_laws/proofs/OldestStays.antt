-- None of the kept variables is bound in the root box, so their classes are as they were.
use Rattle.std.proofs.Common.{◌≡◌, List, [], Some}
use Rattle.akl_terms.specs.declared.name.Name.{Name}
use Rattle.akl_terms.specs.declared.name.Var.{Var}
use Rattle.akl_terms.specs.declared.program.Program.{Program}
use Rattle.akl_terms.specs.declared.program.Query.{Query}
use Rattle.akl_terms.specs.Equal.{IsConsistent, IsStructured}
use Rattle.akl_terms.proofs.EqualLaws.{Equal-follows}
use Rattle.constraint_laws.specs.Touched.{IsAmong}
use Rattle.constraint_laws.proofs.Grown.{Headed-follows}
use Rattle.akl_model.specs.declared.item.Item.{Item}
use Rattle.akl_model.specs.declared.label.Rule.{Rule}
use Rattle.akl_model.specs.declared.label.Label.{Label}
use Rattle.akl_model.specs.Config.{Config, Found, whole, box_at}
use Rattle.akl_model.specs.Derivations.{Derives, Replays}
use Rattle.reading_laws.specs.Closed.{Spares}
use Rattle.reading_laws.specs.OldestStays.{KeepsOldest}
use Rattle.reading_laws.specs.Unchanged.{Unchanged}
use Rattle.reading_laws.proofs.Inner.{was_equal}
use Rattle.reading_laws.proofs.RootUnbound.{many_spares}

pub oldest_stays : (rules : List Rule) (p : Program) (q : Query) (journal : List Label) (c : Config) (ls : List Label) (d : Config) → Replays rules p q journal c → (w : Derives rules p c ls d)
    → (n : Name) (f k : Found) → box_at n c.roots ≡ Some f → f.around ≡ [] → box_at n d.roots ≡ Some k → IsConsistent (whole k)
    → (kept : List Var) → ((x : Var) → IsAmong x kept → Unchanged rules p c ls d w (Item.Binding x)) → KeepsOldest (whole f) kept → KeepsOldest (whole k) kept
oldest_stays rules p q journal c ls d r w n f k e root i h kept u o x y m free oldest =
    let s : Spares (λ v. IsAmong v kept) (whole f) (whole k) = many_spares (λ v. IsAmong v kept) rules p q journal c ls d r w n f k e root i h u in
    let was : IsStructured (whole f) x → ⊥ = λ z. free (Headed-follows s.grows z) in
    o x y m was (record {
      equal = was_equal (λ v. IsAmong v kept) (whole f) (whole k) s x y m was oldest.equal;
      oldest = λ v g. oldest.oldest v (Equal-follows s.grows g);
    })
