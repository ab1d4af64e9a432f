-- What each step makes of a pass's view.
use Rattle.std.specs.Prelude.{ℕ, ◌+◌, List, [], ◌∷◌, ◌++◌}
use Rattle.task_pool.specs.declared.view.Account.{Account}
use Rattle.task_pool.specs.declared.view.View.{View}

abbrev pub account : ℕ → List ℕ → Account
account hand taken = record { hand = hand; taken = taken }

abbrev pub known : ℕ → List ℕ → ℕ → List Account → View
known calls pushed passes accounts = record { calls = calls; pushed = pushed; passes = passes; accounts = accounts }

-- the owner at the start, and a pass that was joined to another
abbrev pub newcomer : View
newcomer = known 0 [] 0 []

abbrev pub spent : View
spent = known 0 [] 0 []

-- the owner, which has taken nothing
abbrev pub of_owner : ℕ → List ℕ → ℕ → View
of_owner calls pushed passes = known calls pushed passes []

-- the pass of one hand
abbrev pub of_hand : ℕ → List ℕ → View
of_hand number taken = known 0 [] 0 (account number taken ∷ [])

abbrev pub after_push : View → List ℕ → View
after_push v tokens = known v.calls (v.pushed ++ tokens) v.passes v.accounts

-- what is taken stands in the first account
abbrev pub with_taken : List Account → List ℕ → List Account
with_taken [] tokens = []
with_taken (a ∷ rest) tokens = account a.hand (a.taken ++ tokens) ∷ rest

abbrev pub after_take : View → List ℕ → View
after_take v tokens = known v.calls v.pushed v.passes (with_taken v.accounts tokens)

-- the owner after its hand began one more call of `take`
abbrev pub one_call : View → View
one_call v = known (v.calls + 1) v.pushed v.passes v.accounts

-- the owner after it has made one more pass for a hand, and that pass
abbrev pub one_more : View → View
one_more v = known v.calls v.pushed (v.passes + 1) v.accounts

abbrev pub of_next : View → View
of_next v = of_hand v.passes []

abbrev pub joined : View → View → View
joined v w = known v.calls v.pushed v.passes (v.accounts ++ w.accounts)

-- what the hand of a pass has taken
abbrev pub first_taken : List Account → List ℕ
first_taken [] = []
first_taken (a ∷ rest) = a.taken

abbrev pub taken_of : View → List ℕ
taken_of v = first_taken v.accounts
