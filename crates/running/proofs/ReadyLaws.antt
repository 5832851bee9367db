-- From texts that read to what the engine and the listing ask, and back to the reply.
--   ready-starts       a goal as read can be run
--   ready-listable     the end of its derivation can be listed
--   ready-replies      and its listing is the reply's (the main law)
-- Assumes nothing.
use Prim.Native.Nat.{ℕ, zero, suc, ◌+◌, ◌*◌, ◌≤◌, ◌<◌}
use native.Mathlib.Omega.{arith}
use mathlib.Core.Bool.{Bool, true, false}
use mathlib.Core.List.{List, [], ◌∷◌, ◌++◌, map}
use mathlib.Core.Option.{Option, none, some}
use Rattle.std.specs.Prelude.{Some, None, is_some, unwrap_or}
use mathlib.Core.Path.{◌≡◌, refl, sym, ap, subst, ◌∙◌}
use lib.ListN.{length, get_or, take, drop, length-append}
use lib.Seq.{take_at, length-take-le}
use Rattle.text.specs.Lists.{onward, tabled}
use Rattle.text.proofs.Laws.{tabled-length}
use Rattle.semantics.specs.Terms.{var, Symbol, Program, State, failed, live}
use Rattle.semantics.specs.Terms.{is_below, is_goal_of, weight, alphabet, Rule}
use Rattle.semantics.specs.Strategy.{Final, advance, normalise, goal_state, run}
use Rattle.semantics.proofs.Configurations.{All}
use Rattle.semantics.proofs.Multisets.{all-mono}
use Rattle.semantics.proofs.Listings.{all-every}
use Rattle.semantics.proofs.Vocabulary.{RuleOver, Spoken, SpokenState, run-spoken}
use Rattle.syntax.specs.Forms.{first_constant}
use Rattle.syntax.proofs.WellFormed.{read-well_formed}
use Rattle.syntax.proofs.Vocabulary.{ConstantOf, read_small, term-more}
use Rattle.syntax.proofs.GoalVocabulary.{ReadGoal, goal-small}
use Rattle.tables.specs.Cells.{cell_term, cell_constraints, state_of}
use Rattle.tables.specs.Rows.{symbols_of, constants_of, name_of, letters_of}
use Rattle.tables.specs.Names.{name_in}
use Rattle.tables.specs.Numbers.{Renumberable}
use Rattle.engine.specs.Runs.{store_of, Startable, Ended}
use Rattle.engine.specs.declared.derivation.Final.{Final as FinalCells}
use Rattle.engine.proofs.GoalLaws.{program_of, goal-starts, goal-runs}
use Rattle.listing.specs.Listing.{naming_of, variable_name, end_listing}
use Rattle.listing.specs.Ends.{end_bytes, Listable}
use Rattle.listing.proofs.NamingLaws.{uses_only, bound_in, state-named, variable-named}
use Rattle.replies.specs.Replies.{goal_text, reply_of, fitted, run_listing, run_reply}
use Rattle.answers.specs.Answers.{Replied}
use Rattle.inputs.specs.Inputs.{program_table, is_known}
use Rattle.running.specs.Stages.{Ready, Entered, final_bytes, FinalListable}
use Rattle.answers.specs.Results.{RunReply}
use Rattle.running.specs.declared.Sizes.{Sizes}
use Rattle.inputs.proofs.KnownLaws.{state-known, known-named}
use Rattle.inputs.proofs.ProgramLaws.{symbols-count, few-symbols, as_read, below-test, rows-within}

-- the strategy fires no more often than it has fuel
normalise-few : (fuel : ℕ) (rs : List Rule) (s : State) (f : ℕ) → (normalise fuel rs s f).firings ≤ f + fuel
unfolding normalise
normalise-few zero rs s f = omega arith
normalise-few (suc fuel) rs s f = go (normalise-few fuel rs) (advance rs s)
  where
    go :
        ((t : State) (f : ℕ) → (normalise fuel rs t f).firings ≤ f + fuel) → (o : Option State)
        → (onward o (record { state = s; firings = f }) (λ t. normalise fuel rs t (suc f))).firings ≤ f + suc fuel
    go more none = omega arith
    go more (some t) = omega (arith, more t (suc f))

module _ {program goal places rules letters cells : List ℕ} {z : Sizes} (r : Ready program goal places rules letters cells z) where
  -- what reading says of the goal
  abbrev goal-read : ReadGoal r.p r.g
  goal-read = goal-small r.p goal (read_small program r.first.read).few-constants r.read

  variables : r.g.goal.variables ≡ length letters
  unfolding letters_of
  variables = goal-read.lettered ∙ ap length r.lettered ∙ tabled-length (λ i. get_or letters i 0 ∷ []) (length letters)

  pub few-variables : length letters ≤ 26
  few-variables = omega (arith, variables, goal-read.lettered, goal-read.few-letters)

  count-constants : length r.g.constants ≡ r.c
  unfolding constants_of
  count-constants = ap length r.spelled ∙ tabled-length (λ i. name_of r.names (first_constant + i)) r.c

  -- the program that the engine runs
  abbrev table : Program
  table = program_of r.names r.symbols r.k rules z.rules

  same-program : r.p.program ≡ table
  unfolding program_table program_of
  same-program = r.first.holds

  is-goal : is_goal_of table r.g.goal ≡ true
  is-goal = subst (λ (q : Program). is_goal_of q r.g.goal ≡ true) same-program goal-read.is-goal

  light : weight table.symbols r.g.goal.constraints ≤ 512
  light = subst (λ (q : Program). weight q.symbols r.g.goal.constraints ≤ 512) same-program goal-read.light

  holds : store_of cells z.constraints ≡ r.g.goal.constraints
  unfolding store_of
  holds = sym r.held

  -- a goal as read can be run
  pub ready-starts : Startable rules z.rules cells z.constraints (length letters)
  unfolding program_of
  ready-starts =
      subst (λ (v : ℕ). Startable rules z.rules cells z.constraints v) variables
      (goal-starts r.names r.symbols r.k rules z.rules (as_read r.first) r.g.goal is-goal cells z.constraints
      holds light
      (omega (arith, variables, few-variables)) (omega (arith, r.cells-size)) (omega (arith, r.few)))

  -- the run's end is over the vocabulary of both texts
  abbrev vocabulary : ℕ → Type 0
  vocabulary = ConstantOf (length r.g.constants)

  more-constants : length r.p.constants ≤ length r.g.constants
  more-constants = let (more, e) = goal-read.front in omega (arith, ap length e, length-append r.p.constants more)

  rules-over : All (RuleOver vocabulary) r.p.program.rules
  rules-over =
      all-mono (λ q s. record {
        body = all-mono (λ c. all-mono (term-more more-constants)) s.over.body;
        equations = all-mono (λ e o. (term-more more-constants e.left o.0, term-more more-constants e.right o.1))
            s.over.equations;
      }) (read_small program r.first.read).rules

  abbrev final : Final
  final = run r.p.program r.g.goal

  spoken :
      SpokenState r.p.program.symbols vocabulary r.g.goal.variables (r.g.goal.variables + alphabet * final.firings)
      final.state
  spoken =
      run-spoken r.p.program vocabulary r.g.goal (read-well_formed program r.first.read) goal-read.is-goal
      rules-over
      goal-read.over

  few-firings : final.firings ≤ 512
  unfolding run
  few-firings =
      omega (
        arith,
        goal-read.light,
        normalise-few (weight r.p.program.symbols r.g.goal.constraints) r.p.program.rules
            (goal_state r.g.goal) 0,
      )

  -- the names of the tables are those of the texts
  same_names : (i : ℕ) → is_known r.k r.c i ≡ true
      → name_in program goal places i ≡ naming_of r.p.program.symbols r.g.constants i
  unfolding program_table
  same_names i h =
      known-named program goal r.names places r.placed r.symbols r.k r.c (few-symbols r.first)
      (omega (arith, count-constants, goal-read.few-constants)) r.named i h
      ∙ sym (ap (λ (ss : List Symbol). naming_of ss r.g.constants i) (ap (λ (q : Program). q.symbols) r.first.holds)
      ∙ ap (λ (cs : List (List ℕ)). naming_of (symbols_of r.names r.symbols r.k) cs i) r.spelled)

  -- the names of the goal's variables
  same-letters : (i : ℕ) → i < length letters → variable_name letters i ≡ get_or r.g.letters i []
  same-letters i h =
      variable-named letters (length letters) i h (omega arith)
      ∙ ap (λ (l : List (List ℕ)). get_or l i []) (sym r.lettered)

  -- the end uses only what is named, and has a name for each goal variable
  final-uses : (s : State) (f : ℕ)
      → SpokenState r.p.program.symbols vocabulary r.g.goal.variables f s
      → (uses_only (is_known r.k r.c) s ≡ true) × (bound_in s ≤ length letters)
  unfolding bound_in
  final-uses failed f t = (
    state-known r.k r.c r.p.program.symbols r.g.goal.variables f failed (symbols-count r.first) tt,
    omega arith,
  )
  final-uses (live next b cs) f t = (
    state-known r.k r.c r.p.program.symbols r.g.goal.variables f (live next b cs) (symbols-count r.first)
        (rw count-constants at t),
    omega (arith, t.size, variables),
  )

  -- the listing of the end, by the names of the tables
  pub final-listed :
      end_listing (name_in program goal places) (variable_name letters) final ≡ run_listing r.p r.g
  unfolding end_listing run_listing
  final-listed =
      let (uses, few) = final-uses final.state _ spoken in
      state-named (is_known r.k r.c) (name_in program goal places) (naming_of r.p.program.symbols r.g.constants)
      (variable_name letters) (λ x. get_or r.g.letters x []) final.firings final.state same_names
      (λ i h. same-letters i (omega (arith, few))) uses

  -- the reply is the listing, or number 11
  run-replies : (room : ℕ) → run_reply program goal room ≡ fitted goal_text room (run_listing r.p r.g)
  unfolding run_reply reply_of
  run-replies room = rw (r.first.read, r.read)

  module _ {bound' cells' : List ℕ} (f : FinalCells)
      (e : Entered rules z (length letters) cells bound' cells' (is_some f.count) (unwrap_or f.count 0) f.next f.firings) where
    -- the end of the derivation is that of the definition
    ready-runs :
        record { state = state_of (is_some f.count) f.next bound' (take (5 * unwrap_or f.count 0) cells'); firings = f.firings } ≡ final
    ready-runs =
        goal-runs r.names r.symbols r.k rules z.rules (as_read r.first) r.g.goal is-goal cells z.constraints
        holds e.bound bound' cells' (is_some f.count) (unwrap_or f.count 0) f.next f.firings
        (e.itself ∙ ap (tabled var) (sym variables))
        (subst (λ (v : ℕ). Ended rules z.rules e.bound cells z.constraints v bound' cells' (is_some f.count) (unwrap_or f.count 0) f.next
        f.firings) (sym variables) e.ended)
        ∙ ap (λ (q : Program). run q r.g.goal) (sym same-program)

    -- its listing is the definition's, and so is the reply
    pub ready-replies :
        {before after : List ℕ} {reply : RunReply}
        → Replied (fitted goal_text (length before) (final_bytes program goal places letters bound' cells' f)) before after reply
        → Replied (run_reply program goal (length before)) before after reply
    unfolding final_bytes
    ready-replies {before} {after} {reply} l =
        rw run-replies
        (subst (λ (bytes : List ℕ). Replied (fitted goal_text (length before) bytes) before after reply)
        (ap (end_listing (name_in program goal places) (variable_name letters)) ready-runs ∙ final-listed) l)

    -- and it can be listed
    pub ready-listable : length bound' ≡ length letters → length cells' ≡ 2590 → FinalListable bound' cells' f
    unfolding state_of alphabet
    ready-listable size room =
        record {
          count-few = λ y. omega (arith, e.ended.few y, room);
          next-few = λ y. let s = lives y in omega (arith, s.numbered, variables, few-variables, few-firings);
          within = λ y.
              let s = lives y in
              let all : length bound' ≡ r.g.goal.variables = size ∙ sym variables in
              record {
                own = rw all (all-every (is_below r.g.goal.variables) (all-mono (below-test r.g.goal.variables) s.own));
                rows = record {
                  known = omega (arith, all, s.numbered);
                  within = rows-within f.next r.p.program.symbols (cell_constraints (take (5 * unwrap_or f.count 0) cells'))
                      (omega (arith, few-symbols r.first, symbols-count r.first)) s.declared s.scoped.constraints;
                  few = omega (
                    arith,
                    size,
                    few-variables,
                    e.ended.few y,
                    length-take-le (5 * unwrap_or f.count 0) cells' (omega (arith, e.ended.few y, room)),
                  );
                };
              };
        }
      where
        lives : is_some f.count ≡ true
            → Spoken r.p.program.symbols vocabulary r.g.goal.variables
            (r.g.goal.variables + alphabet * final.firings) f.next (map cell_term bound')
            (cell_constraints (take (5 * unwrap_or f.count 0) cells'))
        lives y =
            let same : live f.next (map cell_term bound') (cell_constraints (take (5 * unwrap_or f.count 0) cells')) ≡ final.state =
            rw y at (ap (λ (q : Final). q.state) ready-runs) in
            subst (SpokenState r.p.program.symbols vocabulary r.g.goal.variables
            (r.g.goal.variables + alphabet * final.firings)) (sym same) spoken

-- a goal has entered, and the derivation from there has ended
pub entered-ended :
    (start : List ℕ) {rules cells b bound' cells' : List ℕ} {z : Sizes} {v : ℕ} {alive : Bool} {count next firings : ℕ}
    → Ended rules z.rules b cells z.constraints v bound' cells' alive count next firings
    → map cell_term b ≡ tabled var (length start) → length b ≡ length start → v ≡ length b
    → Entered rules z (length start) cells bound' cells' alive count next firings
entered-ended start {rules} {cells} {b} {bound'} {cells'} {z} {v} {alive} {count} {next} {firings} e i l h =
    record {
      bound = b;
      itself = i;
      ended = subst (λ (w : ℕ). Ended rules z.rules b cells z.constraints w bound' cells' alive count next firings) (h ∙ l) e;
    }

-- the listing of an end that lives, and of one that has failed
pub lives-listed :
    (program goal places letters bound cells : List ℕ) (e : FinalCells) (n w : ℕ) → e.count ≡ Some n → w ≡ e.next
    → end_bytes program goal places letters bound (take (5 * n) cells)
    (record { next = Some w; firings = e.firings })
    ≡ final_bytes program goal places letters bound cells e
unfolding end_bytes final_bytes
lives-listed program goal places letters bound cells e n w h k = rw (h, k)

pub failed-listed :
    (program goal places letters bound cells : List ℕ) (e : FinalCells) → e.count ≡ None
    → end_bytes program goal places letters bound cells (record { next = None; firings = e.firings })
    ≡ final_bytes program goal places letters bound cells e
unfolding end_bytes final_bytes state_of
failed-listed program goal places letters bound cells e h = rw h

-- a reply by other words for its bytes
pub replied-is :
    {a b before after : List ℕ} {reply : RunReply} → a ≡ b → Replied (fitted goal_text (length before) a) before after reply
    → Replied (fitted goal_text (length before) b) before after reply
replied-is {a} {b} {before} {after} {reply} e l =
    subst (λ (s : List ℕ). Replied (fitted goal_text (length before) s) before after reply) e l

-- what the listing of such an end asks
pub lives-listable :
    {bound cells : List ℕ} {e : FinalCells} {n w : ℕ} → FinalListable bound cells e → e.count ≡ Some n → w ≡ e.next
    → Listable true w bound (take (5 * n) cells)
lives-listable {bound} {cells} {e} {n} {w} l h k =
    record {
      few = omega (arith, l.next-few (ap is_some h));
      live = λ _. subst (λ (v : ℕ). Renumberable v bound (take (5 * n) cells)) (sym k) ((rw h at l.within) refl);
    }

pub failed-listable : {bound cells : List ℕ} → Listable false 0 bound cells
failed-listable =
    record { few = omega arith; live = λ h. absurd (let w : ◌≡◌ {A = ℕ} 0 1 = cc in omega arith) }

-- the run of a goal as read, whose variables' cells are the front of an array
module _ {program goal places rules letters cells : List ℕ} {z : Sizes} (r : Ready program goal places rules letters cells z)
    (array : List ℕ) (size : length array ≡ 26)
  where
    abbrev v : ℕ
    v = length letters

    front-few : v ≤ 26
    front-few = few-variables r

    pub front-size : v ≡ length (take v array)
    front-size = sym (length-take-le v array (omega (arith, front-few, size)))

    pub front-starts : Startable rules z.rules cells z.constraints (length (take v array)) × (length (take v array) ≤ 26)
    front-starts = (
      subst (λ (n : ℕ). Startable rules z.rules cells z.constraints n) front-size (ready-starts r),
      omega (arith, front-size, front-few),
    )

    module _ {b cells' : List ℕ} (kept : length b ≡ length (take v array)) (f : FinalCells)
        (e : Entered rules z (length (take v array)) cells b cells' (is_some f.count) (unwrap_or f.count 0) f.next f.firings) where
      pub back-few : v ≤ length (b ++ drop v array)
      back-few = omega (arith, kept, front-size, length-append b (drop v array))

      pub back-size : v ≡ length (take v (b ++ drop v array))
      back-size = sym (length-take-le v (b ++ drop v array) back-few)

      again : take v (b ++ drop v array) ≡ b
      again = take_at b (drop v array) v (kept ∙ sym front-size)

      entered : Entered rules z v cells b cells' (is_some f.count) (unwrap_or f.count 0) f.next f.firings
      entered =
          subst (λ (n : ℕ). Entered rules z n cells b cells' (is_some f.count) (unwrap_or f.count 0) f.next f.firings) (sym front-size) e

      pub back-listable : length cells' ≡ length cells → FinalListable (take v (b ++ drop v array)) cells' f
      back-listable same =
          subst (λ (l : List ℕ). FinalListable l cells' f) (sym again)
          (ready-listable r f entered (kept ∙ sym front-size) (same ∙ r.cells-size))

      pub back-replies :
          {before after : List ℕ} {reply : RunReply}
          → Replied (fitted goal_text (length before)
          (final_bytes program goal places letters (take v (b ++ drop v array)) cells' f)) before after reply
          → Replied (run_reply program goal (length before)) before after reply
      back-replies {before} {after} {reply} l =
          ready-replies r f entered
          (subst (λ (p : List ℕ). Replied (fitted goal_text (length before) (final_bytes program goal places letters p cells' f))
          before after reply) again l)
