-- The program and the query that are made from a number.
use Rattle.std.specs.Prelude.{ℕ, zero, suc, ◌+◌, ◌*◌, ◌%◌, List, [], ◌∷◌, ◌++◌, take, codes}
use Rattle.std.specs.Fmt.{decimal}
use Rattle.std.specs.List.{flat_map}

-- the program
abbrev pub lists : List ℕ
lists =
    codes "append([],Y,Z) :- -> Z = Y.\n"
    ++ codes "append([X|Xs],Y,Z) :- -> Z = [X|Zs], append(Xs,Y,Zs).\n"
    ++ codes "nrev([],R) :- -> R = [].\n"
    ++ codes "nrev([X|Xs],R) :- -> nrev(Xs,S), append(S,[X],R).\n"
    ++ codes "member(X,[X|_]).\n"
    ++ codes "member(X,[_|T]) :- member(X,T).\n"

-- the linear congruential numbers from a seed on: the one that follows, and the i-th
abbrev pub next_number : ℕ → ℕ
next_number x = (1103515245 * x + 12345) % 2147483648

abbrev pub number_at : ℕ → ℕ → ℕ
number_at seed zero = seed % 2147483648
number_at seed (suc i) = next_number (number_at seed i)

-- the first k elements, of which the i-th is made from the i-th number, counted from 1
abbrev pub first_elements : ℕ → ℕ → List ℕ
first_elements seed zero = []
first_elements seed (suc k) = first_elements seed k ++ (number_at seed (suc k) % 1000) ∷ []

-- all elements
abbrev pub elements_of : ℕ → List ℕ
elements_of seed = first_elements seed (3 + seed % 98)

-- elements in decimal, with commas between them
abbrev pub behind_comma : ℕ → List ℕ
behind_comma e = codes "," ++ decimal e

abbrev pub separated : List ℕ → List ℕ
separated [] = []
separated (e ∷ es) = decimal e ++ flat_map behind_comma es

-- the query over a list of elements
abbrev pub query_over : List ℕ → List ℕ
query_over es = codes "nrev([" ++ separated es ++ codes "],R), member(X,[" ++ separated (take 3 es) ++ codes "])"

-- the query
abbrev pub query_text : ℕ → List ℕ
query_text seed = query_over (elements_of seed)
