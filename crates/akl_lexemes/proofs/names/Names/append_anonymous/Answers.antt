use Rattle.std.proofs.Common.{◌≡◌, ◌∷◌, ◌++◌, [], length, refl, None, rules}
use Rattle.akl_lexemes.specs.Lexemes.{number_of}
use Rattle.akl_lexemes.specs.Named.{appended}
use Rattle.akl_lexemes.proofs.NameNumbers.{NumbersAgree-anonymous}
use Rattle.akl_lexemes.proofs.names.Names.append_anonymous.Goals as goal

pub invariant_of-self-2 : goal.invariant_of-self-2
invariant_of-self-2 c =
    NumbersAgree-anonymous c.self.inside _ c.self.invariant refl
    (rw (← c.requires.anonymous) c.in_ok-push.ensures.items)
    (rw c.self.view_is c.requires.room)

pub returns : goal.returns
returns c =
    let e : c.len-number.result ≡ length c.args.self.now = rw (← c.self.view_is) (search rules) in
    let f : c.push.new.self.items ≡ c.args.self.now ++ c.args.name ∷ [] = rw (← c.self.view_is) c.in_ok-push.ensures.items in
    let n : number_of c.args.name c.args.self.now ≡ None = rw c.requires.anonymous refl in
    rw (e, f) (appended n)
