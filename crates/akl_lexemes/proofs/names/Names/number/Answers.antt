use Rattle.std.proofs.Common.{◌≡◌, sym, ◌∙◌, Some}
use Rattle.std.specs.BTreeMap.{get_by_text}
use Rattle.akl_lexemes.specs.Lexemes.{number_of}
use Rattle.akl_lexemes.specs.Named.{known}
use Rattle.akl_lexemes.proofs.names.Names.number.Goals as goal

pub returns-in-Some : goal.returns-in-Some
returns-in-Some c =
    let v : get_by_text c.self.inside.numbers c.args.name ≡ Some c.in-Some.number.now = rw (← c.as_str-2.ensures) (sym c.in-Some.ensures.value) in
    let n : number_of c.args.name c.args.self.now ≡ Some c.in-Some.number.now = rw (← c.self.view_is) (sym (c.self.invariant.number c.args.name) ∙ v) in
    known n
