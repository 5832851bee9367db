-- Firing at positions, by the constraints that stand there and those that are left, in any order.
--   FiredAt, fired-at      what a firing has matched, and what its state represents
--   fired-on               what it represents, by what stands at the positions and the rest
--   rep-agree              configurations that equal states represent are the same
--   rep-joined, joined_meets     forks of states and of what they represent are joined alike
-- Assumes nothing.
use Prim.Native.Nat.{ℕ}
use mathlib.Core.List.{List, [], ◌++◌, map}
use mathlib.Core.Option.{some}
use mathlib.Core.Path.{◌≡◌, ap, subst}
use Rattle.semantics.specs.Terms.{Term, Constraint, Rule, State, live}
use Rattle.semantics.specs.Matching.{Assignment, unassigned, match_at}
use Rattle.semantics.specs.Firing.{without, fired, fire_at}
use Rattle.semantics.specs.Variants.{Pointwise, SameMultiset, Variant}
use Rattle.semantics.proofs.Configurations.{Config, Same, iso, both_fail, lift_atom, heads_of, Fits}
use Rattle.semantics.proofs.Configurations.{fire_c, conf_of, All, Scoped, Rep, has_failed, is_live}
use Rattle.semantics.proofs.Multisets.{multiset-mono, multiset-map, multiset-right, multiset-back}
use Rattle.semantics.proofs.Isos.{iso-sym, iso-trans}
use Rattle.semantics.proofs.Options.{bind-some}
use Rattle.semantics.proofs.PositionLaws.{Stands, stands_same, without-taken}
use Rattle.semantics.proofs.MatchLaws.{AtMatch, match_at-sound}
use Rattle.semantics.proofs.FireLaws.{Lettered, Firing, fire-fits}
use Rattle.semantics.proofs.Represent.{fire-represents, rep-iso, rep-same, rep-scoped, rep-variant, rep-reach, rep-steps}
use Rattle.semantics.proofs.Partners.{multiset-cancel}
use Rattle.semantics.proofs.Newman.{Joined}
use Rattle.semantics.proofs.Firings.{Fires, reach-star, star-reach}
use Rattle.semantics.proofs.Critical.{Meets}
use Rattle.semantics.proofs.Stepping.{fire-rest}

-- the atoms of reordered constraints
pub lift-multiset : {l m : List Constraint} → SameMultiset ◌≡◌ l m → SameMultiset ◌≡◌ (map lift_atom l) (map lift_atom m)
lift-multiset s = multiset-map lift_atom lift_atom (multiset-mono (λ c d e. ap lift_atom e) s)

-- what a firing at positions has matched, and what its state represents
pub record FiredAt (r : Rule) (ps : List ℕ) (b : List Term) (cs : List Constraint) (s : State) : Type 1 where
  pub assignment : Assignment
  pub match : AtMatch r.heads ps cs [] unassigned assignment
  pub fits : Fits [] (heads_of r) (map lift_atom match.matched)
  pub represents :
      (L : List Constraint) → SameMultiset ◌≡◌ (without 0 ps cs) L
      → Rep s (fire_c r (conf_of b cs) (map lift_atom match.matched) (map lift_atom L))

pub fired-at :
    (r : Rule) (ps : List ℕ) (n : ℕ) (b : List Term) (cs : List Constraint) {s : State} → Lettered r → Scoped n b cs
    → fire_at r ps (live n b cs) ≡ some s → FiredAt r ps b cs s
unfolding fire_at
fired-at r ps n b cs {s} letters scoped p =
    let (θ, m, e) = bind-some (match_at r.heads ps cs [] unassigned) (λ θ. some (fired r ps θ n b cs)) p in
    let found = match_at-sound r.heads ps cs [] unassigned m in
    let F : Firing r n b cs ps θ = record { scoped = scoped; fitting = found } in
    let final : fired r ps θ n b cs ≡ s = cc in
    record {
      assignment = θ;
      match = found;
      fits = fire-fits r n b cs ps θ F;
      represents = λ L h.
          rep-iso
          (subst (λ t. Rep t (fire_c r (conf_of b cs) (map lift_atom found.matched) (map lift_atom (without 0 ps cs)))) final
          (fire-represents r n b cs ps θ F letters))
          (fire-rest r (conf_of b cs) (map lift_atom found.matched) (lift-multiset h));
    }

-- where M stands at the positions and L is the rest, the state represents the configuration after firing on M
pub fired-on :
    {r : Rule} {ps : List ℕ} {b : List Term} {cs : List Constraint} {s : State} → FiredAt r ps b cs s → (M L : List Constraint)
    → Pointwise (Stands cs) ps M → SameMultiset ◌≡◌ cs (M ++ L) → Rep s (fire_c r (conf_of b cs) (map lift_atom M) (map lift_atom L))
fired-on {r} {ps} {b} {cs} {s} F M L stand split =
    subst (λ N. Rep s (fire_c r (conf_of b cs) (map lift_atom N) (map lift_atom L))) (stands_same cs F.match.stand stand)
    (F.represents L (multiset-cancel M (multiset-right (multiset-back (without-taken cs ps F.match.fresh stand)) split)))

-- configurations that one state represents are the same
rep-both : {s : State} {C D : Config} → Rep s C → Rep s D → Same C D
rep-both (has_failed n) (has_failed m) = both_fail n m
rep-both (is_live s I) (is_live t J) = iso (iso-trans (iso-sym I) J)

-- so are those that equal states represent
pub rep-agree : (s t : State) {C D : Config} → Variant s t → Rep s C → Rep t D → Same C D
rep-agree s t v p q = rep-both (rep-variant s t v (rep-scoped q) p) q

-- states that represent configurations which meet are joined
pub rep-joined :
    {rs : List Rule} {s t : State} {C D : Config} → All Lettered rs → Rep s C → Rep t D → Meets rs C D
    → Joined (Fires rs) Variant s t
rep-joined letters p q m =
    let (u, h, a) = rep-steps letters p m.left_steps in
    let (v, k, b) = rep-steps letters q m.right_steps in
    record { left = u; right = v; left_steps = reach-star h; right_steps = reach-star k; equal = rep-same a b m.equal }

-- and conversely
pub joined_meets :
    {rs : List Rule} {s t : State} {C D : Config} → All Lettered rs → Rep s C → Rep t D → Joined (Fires rs) Variant s t
    → Meets rs C D
joined_meets letters p q j =
    let (A, h, a) = rep-reach letters p (star-reach j.left_steps) in
    let (B, k, b) = rep-reach letters q (star-reach j.right_steps) in
    record { left = A; right = B; left_steps = h; right_steps = k; equal = rep-agree j.left j.right j.equal a b }
