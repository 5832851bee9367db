-- The listing of a verdict as bytes.
--   pair_lines          a P line for each joined pair of heads
--   verdict_listing     `CONFLUENT`, or `UNJOINED` with P and G lines and both ends
-- Assumes nothing.
use Rattle.std.specs.Prelude.{ℕ, zero, suc, List, [], ◌∷◌, ◌++◌}
use Rattle.text.specs.Bytes.{ascii}
use Rattle.text.specs.Fields.{decimal}
use Rattle.semantics.specs.Verdict.{Verdict, confluent, unjoined}
use Rattle.listing.specs.Listing.{Naming, line_of, constraint_lines, variable_name, end_listing}

-- a line for each joined pair of heads, numbered from 1, the first of these of the first rule being n
unfoldable pub pair_lines : ℕ → List ℕ → List ℕ
pair_lines n [] = []
pair_lines n (zero ∷ ds) = pair_lines (suc n) ds
pair_lines n (suc d ∷ ds) = line_of (ascii "P") (decimal n ∷ decimal (suc d) ∷ []) ++ pair_lines (suc n) ds

-- the listing of a verdict; no letter stands for a variable of an overlap's goal
unfoldable pub verdict_listing : Naming → Verdict → List ℕ
verdict_listing naming (confluent n) = line_of (ascii "CONFLUENT") (decimal n ∷ [])
verdict_listing naming (unjoined o one two) =
    let variable = variable_name [] in
    line_of (ascii "UNJOINED") (o.first.rule.name ∷ o.second.rule.name ∷ [])
    ++ (pair_lines 1 o.partners
    ++ (constraint_lines (ascii "G") naming variable o.goal.constraints
    ++ (end_listing naming variable one ++ end_listing naming variable two)))
