-- The root boxes of a core's configuration, and whether they are answers.
use Rattle.std.specs.Prelude.{◌≡◌, ℕ, List, [], Option, Some, None, option_map}
use Rattle.std.proofs.Common.{Vec, Global}
use Rattle.akl_terms.specs.declared.name.Name.{Name}
use Rattle.akl_model.specs.Config.{Content, Goals, Found, box_at}
use Rattle.akl_model.specs.Derivations.{IsAnswer}
use Rattle.step_commit.specs.Cores.{CoreValue, TableIn}
use Rattle.root_answers.specs.Text.{IsTextOf}

abbrev pub symbols_of : CoreValue → List (List ℕ)
symbols_of c = c.table.program.templates.symbols

-- a box without boxes around it
abbrev pub root_box : Content → Goals → Found
root_box b gs = record { around = []; content = b; goals = gs }

-- a fact of the root box of a name
abbrev pub OfRoot : CoreValue → Name → (Content → Goals → Type 0) → Type 0
OfRoot c name P = (t : TableIn c) (b : Content) (gs : Goals) → box_at name t.config.roots ≡ Some (root_box b gs) → P b gs

-- the root box is an answer of this text, or none
abbrev pub IsText : CoreValue → Name → Option (List ℕ) → Type 0
IsText c name None = OfRoot c name (λ b gs. IsAnswer b gs → ⊥)
IsText c name (Some text) = OfRoot c name (λ b gs. IsAnswer b gs × IsTextOf (symbols_of c) b text)

abbrev pub HasText : CoreValue → Name → Option (Vec ℕ Global) → Type 0
HasText c name o = IsText c name (option_map (λ (v : Vec ℕ Global). v.items) o)
