-- The goals that have a meaning of their own.
use Rattle.std.specs.Prelude.{ℕ, ◌==◌, ◌&&◌, ◌||◌, Bool, List, Option, Some, None, is_some, if◌then◌else◌, bytes_eq, codes}
use Rattle.akl_terms.specs.declared.program.Test.TheVariants as tests
use Rattle.clause_keys.specs.declared.reserved.Reserved.{Reserved}
use Rattle.clause_keys.specs.declared.reserved.Reserved.TheVariants.{True, Fail, Equal, Arith, OpenPort, Send}

-- the meaning of a symbol without arguments
abbrev pub without_arguments : List ℕ → Option Reserved
without_arguments s =
    if bytes_eq s (codes "true") then Some True
    else if bytes_eq s (codes "fail") then Some Fail
    else None

-- the meaning of a symbol with two arguments
abbrev pub with_two : List ℕ → Option Reserved
with_two s =
    if bytes_eq s (codes "=") then Some Equal
    else if bytes_eq s (codes "is") then Some (Arith tests.Is)
    else if bytes_eq s (codes "<") then Some (Arith tests.Less)
    else if bytes_eq s (codes ">") then Some (Arith tests.Greater)
    else if bytes_eq s (codes "=<") then Some (Arith tests.AtMost)
    else if bytes_eq s (codes ">=") then Some (Arith tests.AtLeast)
    else if bytes_eq s (codes "=:=") then Some (Arith tests.Same)
    else if bytes_eq s (codes "=\\=") then Some (Arith tests.Differs)
    else if bytes_eq s (codes "open_port") then Some OpenPort
    else if bytes_eq s (codes "send") then Some Send
    else None

-- the reserved meaning of a goal of this symbol with so many arguments
unfoldable pub reserved_of : List ℕ → ℕ → Option Reserved
reserved_of s n = if n == 0 then without_arguments s else if n == 2 then with_two s else None

-- no clause may define this: a goal of it is reserved, or it would be a collecting goal
abbrev pub is_reserved : List ℕ → ℕ → Bool
is_reserved s n = is_some (reserved_of s n) || bytes_eq s (codes "bagof") && n == 3
