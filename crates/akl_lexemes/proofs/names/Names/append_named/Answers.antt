use Rattle.std.proofs.Common.{◌≡◌, ◌∷◌, ◌++◌, [], length, ◌∙◌, rules}
use Rattle.std.specs.String.{string_bytes}
use Rattle.akl_lexemes.specs.Named.{appended}
use Rattle.akl_lexemes.proofs.NameNumbers.{NumbersAgree-named}
use Rattle.akl_lexemes.proofs.names.Names.append_named.Goals as goal
use Rattle.akl_lexemes.proofs.names.Names.append_named.Goals.{in-Ok, in-Err}

pub invariant_of-self-in-Ok : goal.invariant_of-self-in-Ok
invariant_of-self-in-Ok c =
    let key : string_bytes c.into_string-key.result ≡ c.args.name = c.into_string-key.ensures ∙ c.in_ok-duplicate.ensures in
    NumbersAgree-named c.self.inside _ c.into_string-key.result c.len-number.result c.self.invariant
    (rw key c.in_ok-push.ensures.items)
    (search rules)
    (rw c.self.view_is c.requires.room)
    (rw key c.requires.named)
    (rw (key, c.self.view_is) c.requires.new)
    c.in-Ok.ensures.updates

pub returns : goal.returns
returns c = elim c.match-insert.branch [
  | in-Ok w ↦ (
      let e : c.len-number.result ≡ length c.args.self.now = rw (← c.self.view_is) (search rules) in
      let f : c.push.new.self.items ≡ c.args.self.now ++ c.args.name ∷ [] = rw (← c.self.view_is) c.in_ok-push.ensures.items in
      rw (w.self-is, w.result-is, e, f) (appended c.requires.new))
  | in-Err w ↦ rw w.result-is tt
]
