-- Every firing of a well-formed program lowers the weight of the state.
--   weight-append, weight-inserted      the weight of lists of constraints
--   match_at-weight                      the constraints at matched positions weigh what the heads do
--   rule-lowers                         what a well-formed program's rule removes weighs more than its body
--   weight-lower                        with its kept heads on both sides too
--   state_weight                         the weight of a state; a failed state has none
--   fire_at-lighter                      a firing lowers it
-- Assumes nothing.
use Prim.Native.Nat.{ℕ, zero, suc, ◌+◌, ◌<◌, ◌≤◌}
use native.Mathlib.Omega.{arith}
use mathlib.Core.Bool.{Bool, true, ◌&&◌}
use mathlib.Core.List.{List, [], ◌∷◌, ◌++◌, map}
use mathlib.Core.Option.{Option, none, some}
use mathlib.Core.Path.{◌≡◌, refl}
use lib.Dec.{ltb, ltb→lt}
use lib.ListN.{get_elem?, take-append-drop}
use Rattle.text.specs.Lists.{every}
use Rattle.semantics.specs.Terms.{Term, Constraint, Symbol, Rule, Program, State, failed, live, map_terms, map_sides}
use Rattle.semantics.specs.Terms.{kept_heads, removed_heads, symbol_at, weight, weight_by, is_of_rule, is_below, alphabet}
use Rattle.semantics.specs.Terms.{is_rule_of, is_well_formed}
use Rattle.semantics.specs.Matching.{Assignment, unassigned, match_at}
use Rattle.semantics.specs.Solving.{solve}
use Rattle.semantics.specs.Firing.{without, instance, settle, fired, fire_at}
use Rattle.semantics.specs.Variants.{Inserted, SameMultiset, done, put}
use Rattle.semantics.specs.Rewriting.{whole_body, Reordered, both_failed, reordered}
use Rattle.semantics.proofs.Options.{true-T, none-some, bind-some}
use Rattle.text.proofs.Bools.{and-true}
use Rattle.semantics.proofs.Removal.{without-none}
use Rattle.semantics.proofs.MatchLaws.{match_at-sound}
use Rattle.semantics.proofs.KeptHeads.{fired-reordered}
use Rattle.semantics.proofs.SymbolWeights.{weight-append as append-by, weight-inserted as inserted_by}
use Rattle.semantics.proofs.SymbolWeights.{weight-map as map-by, match-lighter}

-- what each symbol weighs, by its number
abbrev weighs : List Symbol → ℕ → ℕ
weighs symbols = λ k. (symbol_at symbols k).weight

-- the weight of a list by its first constraint, and of none
pub weight-cons :
    (symbols : List Symbol) (c : Constraint) (cs : List Constraint)
    → weight symbols (c ∷ cs) ≡ (symbol_at symbols c.symbol).weight + weight symbols cs
unfolding weight
weight-cons symbols c cs = refl

-- no constraints weigh nothing
pub weight-nil : (symbols : List Symbol) → weight symbols [] ≡ 0
unfolding weight
weight-nil symbols = refl

-- the weight of two lists, one behind the other
pub weight-append :
    (symbols : List Symbol) (cs ds : List Constraint) → weight symbols (cs ++ ds) ≡ weight symbols cs + weight symbols ds
unfolding weight weight_by
weight-append symbols = append-by (weighs symbols)

-- the weight with one more constraint
pub weight-inserted :
    (symbols : List Symbol) {c : Constraint} {cs ds : List Constraint} → Inserted c cs ds
    → weight symbols ds ≡ (symbol_at symbols c.symbol).weight + weight symbols cs
unfolding weight weight_by
weight-inserted symbols = inserted_by (weighs symbols)

-- equal multisets weigh the same
weight-multiset :
    (symbols : List Symbol) {cs ds : List Constraint} → SameMultiset ◌≡◌ cs ds → weight symbols cs ≡ weight symbols ds
weight-multiset symbols done = refl
weight-multiset symbols (put {a = c} {b = d} {l = cs} {m = ds} e i m) =
    rw (e, weight-cons symbols d cs, weight-inserted symbols i, weight-multiset symbols m) refl

-- replacing terms keeps the weight
pub weight-map :
    (symbols : List Symbol) (f : Term → Term) (cs : List Constraint) → weight symbols (map (map_terms f) cs) ≡ weight symbols cs
unfolding weight weight_by
weight-map symbols = map-by (weighs symbols)

-- the constraints at matched positions weigh what the heads do
pub match_at-weight :
    (symbols : List Symbol) (hs : List Constraint) (ps : List ℕ) (cs : List Constraint) (chosen : List ℕ) (θ end : Assignment)
    → match_at hs ps cs chosen θ ≡ some end
    → weight symbols (without 0 chosen cs) ≡ weight symbols hs + weight symbols (without 0 (chosen ++ ps) cs)
unfolding weight weight_by
match_at-weight symbols hs ps cs chosen θ end e = omega (arith, match-lighter (weighs symbols) hs ps cs chosen θ end e)

-- an element of a list that passes a test throughout
pub every-at {ℓ} :
    {A : Type ℓ} (test : A → Bool) (l : List A) (n : ℕ) (a : A) → every test l ≡ true → get_elem? l n ≡ some a
    → test a ≡ true
every-at test [] n a e s = none-some refl s
every-at test (b ∷ l) zero a e s = let q : b ≡ a = cc in rw (← q) (and-true (test b) (every test l) e).0
every-at test (b ∷ l) (suc n) a e s = every-at test l n a (and-true (test b) (every test l) e).1 s

-- a rule's heads are those that are kept and those that are removed
pub heads-parts : (r : Rule) → kept_heads r ++ removed_heads r ≡ r.heads
unfolding kept_heads removed_heads
heads-parts r = take-append-drop r.kept r.heads

-- what a rule of a well-formed program removes weighs more than its body
pub rule-lowers :
    (p : Program) (n : ℕ) (r : Rule) → is_well_formed p ≡ true → get_elem? p.rules n ≡ some r
    → weight p.symbols r.body < weight p.symbols (removed_heads r)
unfolding is_well_formed is_rule_of
rule-lowers p n r w s =
    let e = every-at (is_rule_of p.symbols) p.rules n r w s in
    let over = every (is_of_rule p.symbols) r.heads && every (is_of_rule p.symbols) r.body
    && every (λ q. is_below alphabet q.left && is_below alphabet q.right) r.equations in
    let heavy = ltb (weight p.symbols r.body) (weight p.symbols (removed_heads r)) in
    ltb→lt (weight p.symbols r.body) (weight p.symbols (removed_heads r)) (true-T {b = heavy} (and-true over heavy e).1)

-- with its kept heads on both sides it has heads that weigh more than its body
pub weight-lower :
    (symbols : List Symbol) (r : Rule) → weight symbols r.body < weight symbols (removed_heads r)
    → weight symbols (whole_body r) < weight symbols r.heads
weight-lower symbols r l =
    omega (
      arith,
      weight-append symbols (kept_heads r) r.body,
      rw heads-parts at (weight-append symbols (kept_heads r) (removed_heads r)),
    )

-- the weight of a state; a failed one has none
unfoldable pub state_weight : List Symbol → State → ℕ
state_weight symbols failed = 0
state_weight symbols (live next bound cs) = weight symbols cs

-- what settling leaves weighs no more than what was settled
settle-weight :
    (symbols : List Symbol) (o : Option (Term → Term)) (next : ℕ) (bound : List Term) (cs : List Constraint)
    → state_weight symbols (settle o next bound cs) ≤ weight symbols cs
unfolding settle state_weight
settle-weight symbols none next bound cs = omega arith
settle-weight symbols (some σ) next bound cs = rw weight-map (omega arith)

-- reordered states weigh the same
weight-reordered : (symbols : List Symbol) {s t : State} → Reordered s t → state_weight symbols s ≡ state_weight symbols t
unfolding state_weight
weight-reordered symbols both_failed = refl
weight-reordered symbols (reordered m) = weight-multiset symbols m

-- firing a rule whose heads match, and which removes more weight than its body has
fired-lighter :
    (symbols : List Symbol) (r : Rule) (ps : List ℕ) (θ : Assignment) (next : ℕ) (bound : List Term) (cs : List Constraint)
    → weight symbols r.body < weight symbols (removed_heads r) → match_at r.heads ps cs [] unassigned ≡ some θ
    → state_weight symbols (fired r ps θ next bound cs) < weight symbols cs
unfolding fired
fired-lighter symbols r ps θ next bound cs l m =
    let body = map (map_terms (instance next θ)) (whole_body r) in
    let o = solve (map (map_sides (instance next θ)) r.equations) (λ t. t) in
    omega (
      arith,
      rw without-none at (match_at-weight symbols r.heads ps cs [] unassigned θ m),
      settle-weight symbols o (next + alphabet) bound (without 0 ps cs ++ body),
      weight-append symbols (without 0 ps cs) body,
      weight-map symbols (instance next θ) (whole_body r),
      weight-lower symbols r l,
      weight-reordered symbols (fired-reordered r ps θ next bound cs (match_at-sound r.heads ps cs [] unassigned m)),
    )

-- a firing of a well-formed program's rule lowers the weight of the state
pub fire_at-lighter :
    (p : Program) (n : ℕ) (r : Rule) (ps : List ℕ) (s t : State) → is_well_formed p ≡ true → get_elem? p.rules n ≡ some r
    → fire_at r ps s ≡ some t → state_weight p.symbols t < state_weight p.symbols s
unfolding fire_at state_weight
fire_at-lighter p n r ps failed t w e f = none-some refl f
fire_at-lighter p n r ps (live next bound cs) t w e f =
    let u = bind-some (match_at r.heads ps cs [] unassigned) (λ θ. some (fired r ps θ next bound cs)) f in
    let q : fired r ps u.0 next bound cs ≡ t = cc u.2 in
    rw q at (fired-lighter p.symbols r ps u.0 next bound cs (rule-lowers p n r w e) u.1)
