-- `lines::heads::are_terms` meets its contract: the fields left answer for all. Assumes nothing.
use Rattle.std.proofs.Common.{◌≡◌, List, ℕ, map, length, take, drop}
use Rattle.text.specs.Lists.{every}
use Rattle.text.specs.Fields.{is_term}
use Rattle.text.specs.Keys.{key_of}
use Rattle.lines.proofs.heads.are_terms.Given as goal

abbrev pub invariant-loop-i : goal.invariant-loop-i
invariant-loop-i l =
    (fs : List (List ℕ)) → l.count ≡ length fs → take (length fs) l.keys ≡ take 8 (map key_of fs)
    → every is_term (drop l.i fs) ≡ every is_term (drop l.from fs)
