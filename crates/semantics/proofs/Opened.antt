-- Opens every definition of this crate at once: a proof that says `unfolding opened` computes with all of them.
-- Assumes nothing.
use Prim.Native.Nat.{ℕ}
use Rattle.semantics.specs.Terms.{same_term, map_terms, map_sides, kept_heads, removed_heads, no_symbol, symbol_at, weight}
use Rattle.semantics.specs.Terms.{weight_by, is_declared, is_below, is_goal_of, alphabet, is_of_rule, is_rule_of, is_well_formed}
use Rattle.semantics.specs.Matching.{unassigned, extend, match_term, match_terms, match_constraint, match_at}
use Rattle.semantics.specs.Solving.{replace, unify, solve}
use Rattle.semantics.specs.Firing.{without, instance, settle, fired, fire_at}
use Rattle.semantics.specs.Derivations.{become, taken, entering, firing, follow, follow_all, start, derive}
use Rattle.semantics.specs.Derivations.{all_entered}
use Rattle.semantics.specs.Strategy.{first_in, find, choose_from, choose, advance, normalise, goal_state, run}
use Rattle.semantics.specs.Tally.{tally_of, outnumbers, is_short, choose_from_by, choose_by, raised, exchanged}
use Rattle.semantics.specs.Tally.{normalise_by, tally_after, tally_all, tally}
use Rattle.semantics.specs.Variants.{are_partners, are_paired, pair_term, pair_terms, pair_constraint, try_partners}
use Rattle.semantics.specs.Variants.{place, same_state}
use Rattle.semantics.specs.Overlaps.{partner_lists, is_one_to_one, is_pairing, pairings, apart, equate_terms, equate}
use Rattle.semantics.specs.Overlaps.{join_equations, unjoined_heads, second_positions, appearing_in, appearing}
use Rattle.semantics.specs.Overlaps.{numbered, goal_of, overlap_of, numbered_from, overlaps_of, overlaps_among}
use Rattle.semantics.specs.Overlaps.{overlaps, side_end, first_end, second_end}
use Rattle.semantics.specs.Verdict.{is_joinable, judge, verdict}

-- a name to say on an `unfolding` line
unfoldable pub opened : ℕ
unfolding same_term map_terms map_sides kept_heads removed_heads no_symbol symbol_at weight weight_by is_declared is_below is_goal_of alphabet is_of_rule is_rule_of is_well_formed unassigned extend match_term match_terms match_constraint match_at replace unify solve without instance settle fired fire_at become taken entering firing follow follow_all start derive all_entered first_in find choose_from choose advance normalise goal_state run tally_of outnumbers is_short choose_from_by choose_by raised exchanged normalise_by tally_after tally_all tally are_partners are_paired pair_term pair_terms pair_constraint try_partners place same_state partner_lists is_one_to_one is_pairing pairings apart equate_terms equate join_equations unjoined_heads second_positions appearing_in appearing numbered goal_of overlap_of numbered_from overlaps_of overlaps_among overlaps side_end first_end second_end is_joinable judge verdict
opened = 0
