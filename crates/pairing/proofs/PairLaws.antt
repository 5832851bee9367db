-- Pairing cells in tables is pairing terms in a list of partners: one law for each way that the code goes.
--   graph-empty, graph-new      tables with no partners; with one pair more
--   link-…                      two terms
--   cleared-…                   the partners of some columns forgotten
--   columns-…                   the terms of two constraints
--   bound-…                     what the goal variables became
-- Assumes nothing.
use Rattle.std.proofs.Common.{◌≡◌, ℕ, zero, suc, ◌+◌, ◌-◌, ◌≤◌, ◌<◌, Bool, true, false, cond, not, ◌&&◌, ◌||◌, List, [], ◌∷◌, map}
use Rattle.std.proofs.Common.{length, get_or, set, take, drop, replicate, refl, sym, ap, ◌∙◌, arith, add-one, ◌⊎◌, inl, inr, ⊎_elim, eqb}
use Rattle.std.proofs.Common.{length-set, length-drop}
use Rattle.std.specs.Prelude.{Option, Some, None, is_some, Ok, Err}
use Rattle.std.proofs.Math.Option.{none, some}
use lib.ListN.{drop_of_length-le}
use lib.Seq.{get_or-set_same, get_or-set_other, set-set, set-get_or, drop-cons, get_or-drop}
use borrow.Author.Tests.{eq-eqb, ne_eqb, eqb-true, eqb-false}
use Rattle.semantics.specs.Variants.{Pair, are_partners, are_paired, pair_term, pair_terms}
use Rattle.semantics.proofs.Options.{true-false}
use Rattle.tables.specs.Cells.{cell_term, cell_terms}
use Rattle.tables.proofs.CellLaws.{either, le-or-lt, cell-low, cell-high, eqb-iff, terms-none, terms-more}
use Rattle.pairing.specs.Renamings.{Graph, Joined, Linked, RowsLinked, Rows, cleared}

-- a test, or false
or-none : (t : Bool) → (t || false) ≡ t
or-none true = refl
or-none false = refl

-- a test and false
and_none : (t : Bool) → (t && false) ≡ false
and_none true = refl
and_none false = refl

-- a cell of a table of zeros
zeros-at : (n i : ℕ) → ◌≡◌ {A = ℕ} (get_or (replicate n 0) i 0) 0
zeros-at zero i = refl
zeros-at (suc n) zero = refl
zeros-at (suc n) (suc i) = zeros-at n i

-- tables of zeros stand for no partners
pub graph-empty : (m n : ℕ) → Graph (replicate m 0) (replicate n 0) []
unfolding are_partners are_paired
graph-empty m n =
    record {
      partners = λ x y. rw (zeros-at m (x + 256)) (sym (ne_eqb 0 (y + 256) (λ e. omega arith)));
      paired = λ x y. rw (zeros-at m (x + 256), zeros-at n (y + 256));
    }

module _ (f b : List ℕ) (ps : List Pair) (g : Graph f b ps) (x y : ℕ) (hx : 256 ≤ x) (hy : 256 ≤ y) where
  -- a variable's cell, by its number
  here : x - 256 + 256 ≡ x
  here = omega arith

  there : y - 256 + 256 ≡ y
  there = omega arith

  -- the tables say whether two variables are partners
  at-partners : are_partners (x - 256) (y - 256) ps ≡ eqb (get_or f x 0) y
  at-partners = rw (here, there) at (g.partners (x - 256) (y - 256))

  -- and whether either has one
  at-paired : are_paired (x - 256) (y - 256) ps ≡ not (eqb (get_or f x 0) 0 && eqb (get_or b y 0) 0)
  at-paired = rw (here, there) at (g.paired (x - 256) (y - 256))

  -- two variables are paired by what the tables have
  pair-high :
      pair_term (cell_term x) (cell_term y) ps
      ≡ cond (eqb (get_or f x 0) y) (some ps)
      (cond (not (eqb (get_or f x 0) 0 && eqb (get_or b y 0) 0)) none (some (record { left = x - 256; right = y - 256 } ∷ ps)))
  unfolding pair_term
  pair-high = rw (cell-high x hx, cell-high y hy, ← at-partners, ← at-paired)

  module _ (lx : x < length f) (ly : y < length b) (zx : get_or f x 0 ≡ 0) (zy : get_or b y 0 ≡ 0) where
    -- two variables that had no partners
    new : List Pair
    new = record { left = x - 256; right = y - 256 } ∷ ps

    other : (u v : ℕ) → eqb u (v - 256) ≡ false → 256 ≤ v → u + 256 ≡ v → ⊥
    other u v n h e = eqb-false u (v - 256) n (omega arith)

    new-partners : (u v : ℕ) → (eqb u (x - 256) ≡ true) ⊎ (eqb u (x - 256) ≡ false)
        → are_partners u v (record { left = x - 256; right = y - 256 } ∷ ps) ≡ eqb (get_or (set f x y) (u + 256) 0) (v + 256)
    unfolding are_partners
    new-partners u v (inl e) =
        let k : u + 256 ≡ x = omega (arith, eqb-true u (x - 256) e) in
        let none_yet : are_partners u v ps ≡ false =
        g.partners u v ∙ rw (k, zx) (ne_eqb 0 (v + 256) (λ z. omega arith)) in
        rw (e, none_yet, k, get_or-set_same f x y 0 lx, or-none (eqb v (y - 256)))
        (eqb-iff v (y - 256) y (v + 256) (λ z. omega arith) (λ z. omega arith))
    new-partners u v (inr e) =
        rw (e, get_or-set_other f x (u + 256) y 0 (other u x e hx)) (g.partners u v)

    new-paired : (u v : ℕ) → (eqb u (x - 256) ≡ true) ⊎ (eqb u (x - 256) ≡ false)
        → (eqb v (y - 256) ≡ true) ⊎ (eqb v (y - 256) ≡ false)
        → are_paired u v (record { left = x - 256; right = y - 256 } ∷ ps)
        ≡ not (eqb (get_or (set f x y) (u + 256) 0) 0 && eqb (get_or (set b y x) (v + 256) 0) 0)
    unfolding are_paired
    new-paired u v (inl e) d =
        let k : u + 256 ≡ x = omega (arith, eqb-true u (x - 256) e) in
        rw (e, k, get_or-set_same f x y 0 lx, ne_eqb y 0 (λ z. omega arith))
    new-paired u v (inr e) (inl d) =
        let k : v + 256 ≡ y = omega (arith, eqb-true v (y - 256) d) in
        rw (e, d, k, get_or-set_same b y x 0 ly, ne_eqb x 0 (λ z. omega arith), and_none (eqb (get_or (set f x y) (u + 256) 0) 0))
    new-paired u v (inr e) (inr d) =
        rw (e, d, get_or-set_other f x (u + 256) y 0 (other u x e hx), get_or-set_other b y (v + 256) x 0 (other v y d hy))
        (g.paired u v)

    -- the tables with one pair more
    pub graph-new : Graph (set f x y) (set b y x) (record { left = x - 256; right = y - 256 } ∷ ps)
    graph-new =
        record {
          partners = λ u v. new-partners u v (either (eqb u (x - 256)));
          paired = λ u v. new-paired u v (either (eqb u (x - 256))) (either (eqb v (y - 256)));
        }

-- a stored value, put back
restored : (l : List ℕ) (i v : ℕ) → get_or l i 0 ≡ 0 → set (set l i v) i 0 ≡ l
restored l i v z = set-set l i v 0 ∙ ap (set l i) (sym z) ∙ set-get_or l i 0

-- a constant is paired with itself only
pair-low : (x y : ℕ) (ps : List Pair) → x < 256 → pair_term (cell_term x) (cell_term y) ps ≡ cond (eqb x y) (some ps) none
unfolding pair_term
pair-low x y ps h =
    ⊎_elim (λ k. rw (cell-low x h, cell-high y k, ne_eqb x y (λ e. omega arith))) (λ k. rw (cell-low x h, cell-low y k))
    (le-or-lt 256 y)

-- a variable is not paired with a constant
pair-apart : (x y : ℕ) (ps : List Pair) → 256 ≤ x → y < 256 → pair_term (cell_term x) (cell_term y) ps ≡ none
unfolding pair_term
pair-apart x y ps h k = rw (cell-high x h, cell-low y k)

module _ (x y : ℕ) (f b : List ℕ) where
  -- tables that stay as they are
  same-always : ((ps : List Pair) → Graph f b ps → pair_term (cell_term x) (cell_term y) ps ≡ some ps) → Linked x y (Some false) f b f b
  same-always a =
      record {
        same = record { joined = λ ps g t. (ps, a ps g, g); apart = λ ps g t. true-false refl t };
        forth-back = refl;
        back-back = refl;
      }

  apart-always : ((ps : List Pair) → Graph f b ps → pair_term (cell_term x) (cell_term y) ps ≡ none) → Linked x y None f b f b
  apart-always a =
      record {
        same = record { joined = λ ps g e. true-false e refl; apart = λ ps g e. a ps g };
        forth-back = refl;
        back-back = refl;
      }

  pub link-constant : x < 256 → x ≡ y → Linked x y (Some false) f b f b
  link-constant h e = same-always (λ ps g. pair-low x y ps h ∙ rw (eq-eqb x y e))

  pub link-constants : x < 256 → (x ≡ y → ⊥) → Linked x y None f b f b
  link-constants h d = apart-always (λ ps g. pair-low x y ps h ∙ rw (ne_eqb x y d))

  pub link_apart : 256 ≤ x → y < 256 → Linked x y None f b f b
  link_apart h k = apart-always (λ ps g. pair-apart x y ps h k)

  module _ (i j : ℕ) (ei : i ≡ x) (ej : j ≡ y) (hx : 256 ≤ x) (hy : 256 ≤ y) where
    pub link-partners : get_or f i 0 ≡ y → Linked x y (Some false) f b f b
    link-partners e = same-always (λ ps g. pair-high f b ps g x y hx hy ∙ rw (← ei, eq-eqb (get_or f i 0) y e))

    module _ (d : get_or f i 0 ≡ y → ⊥) where
      other-partner : get_or f x 0 ≡ y → ⊥
      other-partner e = d (rw ei e)

      pub link_left : (get_or f i 0 ≡ 0 → ⊥) → Linked x y None f b f b
      link_left z =
          let n : eqb (get_or f x 0) 0 ≡ false = ne_eqb (get_or f x 0) 0 (λ e. z (rw ei e)) in
          apart-always (λ ps g. pair-high f b ps g x y hx hy ∙ rw (ne_eqb (get_or f x 0) y other-partner, n))

      module _ (z : get_or f i 0 ≡ 0) where
        zx : get_or f x 0 ≡ 0
        zx = rw ei at z

        pub link-right : (get_or b j 0 ≡ 0 → ⊥) → Linked x y None f b f b
        link-right w =
            let n : eqb (get_or b y 0) 0 ≡ false = ne_eqb (get_or b y 0) 0 (λ e. w (rw ej e)) in
            apart-always
            (λ ps g. pair-high f b ps g x y hx hy
            ∙ rw (ne_eqb (get_or f x 0) y other-partner, n, and_none (eqb (get_or f x 0) 0)))

        pub link-new :
            get_or b j 0 ≡ 0 → x < length f → y < length b → Linked x y (Some true) f b (set f i y) (set b j x)
        link-new w lx ly =
            let zy : get_or b y 0 ≡ 0 = rw ej at w in
            rw (ei, ej)
            (record {
              same = record {
                joined = λ ps g t. (
                  record { left = x - 256; right = y - 256 } ∷ ps,
                  pair-high f b ps g x y hx hy
                      ∙ rw (ne_eqb (get_or f x 0) y other-partner, eq-eqb (get_or f x 0) 0 zx, eq-eqb (get_or b y 0) 0 zy),
                  graph-new f b ps g x y hx hy lx ly zx zy,
                );
                apart = λ ps g t. true-false refl t;
              };
              forth-back = restored f x y zx;
              back-back = restored b y x zy;
            })

-- columns where nothing was made leave a table as it is
cleared-none :
    (bs : List Bool) (xs t : List ℕ) → ((k : ℕ) → get_or bs k false ≡ false) → cleared bs xs t ≡ t
unfolding cleared
cleared-none [] xs t n = refl
cleared-none (b ∷ bs) [] t n = refl
cleared-none (b ∷ bs) (x ∷ xs) t n =
    let e : b ≡ false = n 0 in
    rw e (cleared-none bs xs t (λ k. n (suc k)))

-- one column more, behind which nothing was made
cleared-set :
    (i : ℕ) (b : Bool) (bs : List Bool) (xs t : List ℕ) → ((k : ℕ) → i ≤ k → get_or bs k false ≡ false)
    → i < length bs → i < length xs → cleared (set bs i b) xs t ≡ cleared bs xs (cond b (set t (get_or xs i 0) 0) t)
unfolding cleared
cleared-set i b [] xs t n h k = absurd (omega arith)
cleared-set i b (c ∷ bs) [] t n h k = absurd (omega arith)
cleared-set zero b (c ∷ bs) (x ∷ xs) t n h k =
    let e : c ≡ false = n 0 (omega arith) in
    let later : (m : ℕ) → get_or bs m false ≡ false = λ m. n (suc m) (omega arith) in
    rw (e, cleared-none bs xs t later, cleared-none bs xs (cond b (set t x 0) t) later)
cleared-set (suc i) b (c ∷ bs) (x ∷ xs) t n h k =
    rw (cleared-set i b bs xs t (λ m l. n (suc m) (omega arith)) (omega arith) (omega arith))

-- the last of some columns first
cleared-last :
    (k : ℕ) (bs : List Bool) (xs t : List ℕ) → k < length bs → k < length xs
    → cleared (take (suc k) bs) xs t ≡ cleared (take k bs) xs (cond (get_or bs k false) (set t (get_or xs k 0) 0) t)
unfolding cleared
cleared-last k [] xs t h l = absurd (omega arith)
cleared-last k (b ∷ bs) [] t h l = absurd (omega arith)
cleared-last zero (b ∷ bs) (x ∷ xs) t h l = refl
cleared-last (suc k) (b ∷ bs) (x ∷ xs) t h l = rw (cleared-last k bs xs t (omega arith) (omega arith))

-- the columns before i are paired: those from i on, under the renaming by now, give the answer for all
pub record Columns (a b forth₀ back₀ forth back : List ℕ) (fresh : List Bool) (i : ℕ) : Type 0 where
  pub size : length fresh ≡ 4
  pub none-later : (k : ℕ) → i ≤ k → get_or fresh k false ≡ false
  pub forth-size : length forth ≡ length forth₀
  pub back-size : length back ≡ length back₀
  pub same :
      (ps : List Pair) → Graph forth₀ back₀ ps
      → (qs : List Pair) × Graph forth back qs
      × (pair_terms (cell_terms (drop (suc i) a)) (cell_terms (drop (suc i) b)) qs
      ≡ pair_terms (cell_terms (drop 1 a)) (cell_terms (drop 1 b)) ps)
  pub forth-back : cleared fresh (drop 1 a) forth ≡ forth₀
  pub back-back : cleared fresh (drop 1 b) back ≡ back₀

-- no column yet
no-flags : (k : ℕ) → get_or (false ∷ false ∷ false ∷ false ∷ []) k false ≡ false
no-flags zero = refl
no-flags (suc zero) = refl
no-flags (suc (suc zero)) = refl
no-flags (suc (suc (suc zero))) = refl
no-flags (suc (suc (suc (suc k)))) = refl

pub columns-start : (a b f g : List ℕ) → Columns a b f g f g (replicate 4 false) 0
columns-start a b f g =
    record {
      size = refl;
      none-later = λ k h. no-flags k;
      forth-size = refl;
      back-size = refl;
      same = λ ps h. (ps, h, refl);
      forth-back = cleared-none _ (drop 1 a) f no-flags;
      back-back = cleared-none _ (drop 1 b) g no-flags;
    }

module _ (a b f₀ g₀ f g : List ℕ) (fresh : List Bool) (i : ℕ) (r : Rows a b f₀ g₀)
    (w : Columns a b f₀ g₀ f g fresh i) where
  -- the columns left are paired
  joined-columns :
      ((qs : List Pair) → Graph f g qs
      → pair_terms (cell_terms (drop (suc i) a)) (cell_terms (drop (suc i) b)) qs ≡ some qs)
      → RowsLinked a b (Ok fresh) f₀ g₀ f g
  joined-columns y =
      record {
        same = record {
          joined = λ ps h t. let (qs, k, e) = w.same ps h in (qs, sym e ∙ y qs k, k);
          apart = λ ps h t. true-false refl t;
        };
        size = w.size;
        forth-back = w.forth-back;
        back-back = w.back-back;
      }

  -- they cannot be made equal
  apart-columns :
      ((qs : List Pair) → Graph f g qs
      → pair_terms (cell_terms (drop (suc i) a)) (cell_terms (drop (suc i) b)) qs ≡ none)
      → RowsLinked a b (Err fresh) f₀ g₀ f g
  apart-columns n =
      record {
        same = record {
          joined = λ ps h t. true-false t refl;
          apart = λ ps h t. let (qs, k, e) = w.same ps h in sym e ∙ n qs k;
        };
        size = w.size;
        forth-back = w.forth-back;
        back-back = w.back-back;
      }

  -- no column is left
  pub columns-done : 4 ≤ i → RowsLinked a b (Ok fresh) f₀ g₀ f g
  unfolding pair_terms cell_terms
  columns-done l =
      joined-columns
      (λ qs k. rw (
        drop_of_length-le a {i = suc i} (omega (arith, r.left-size)),
        drop_of_length-le b {i = suc i} (omega (arith, r.right-size)),
      ))

  module _ (l : i < 4) where
    inside : suc i < length a
    inside = omega (arith, r.left-size)

    inside' : suc i < length b
    inside' = omega (arith, r.right-size)

    module _ (z : get_or a (i + 1) 0 ≡ 0) where
      -- no constraint has a term left
      pub columns-end : get_or b (i + 1) 0 ≡ 0 → RowsLinked a b (Ok fresh) f₀ g₀ f g
      unfolding pair_terms
      columns-end t =
          joined-columns
          (λ qs k. rw (terms-none a (suc i) inside (rw (add-one i) at z), terms-none b (suc i) inside' (rw (add-one i) at t)))

      -- the first has none left
      pub columns-over : (get_or b (i + 1) 0 ≡ 0 → ⊥) → RowsLinked a b (Err fresh) f₀ g₀ f g
      unfolding pair_terms
      columns-over t =
          apart-columns
          (λ qs k. rw (
            terms-none a (suc i) inside (rw (add-one i) at z),
            terms-more b (suc i) inside' (λ e. t (rw (add-one i) e)),
          ))

    module _ (nz : get_or a (i + 1) 0 ≡ 0 → ⊥) where
      more : cell_terms (drop (suc i) a) ≡ cell_term (get_or a (suc i) 0) ∷ cell_terms (drop (suc (suc i)) a)
      more = terms-more a (suc i) inside (λ e. nz (rw (add-one i) e))

      -- the second has none left
      pub columns-short : get_or b (i + 1) 0 ≡ 0 → RowsLinked a b (Err fresh) f₀ g₀ f g
      unfolding pair_terms
      columns-short z =
          apart-columns (λ qs k. rw (more, terms-none b (suc i) inside' (rw (add-one i) at z)))

      module _ (nz' : get_or b (i + 1) 0 ≡ 0 → ⊥) where
        more' : cell_terms (drop (suc i) b) ≡ cell_term (get_or b (suc i) 0) ∷ cell_terms (drop (suc (suc i)) b)
        more' = terms-more b (suc i) inside' (λ e. nz' (rw (add-one i) e))

        -- the next terms cannot be made equal
        pub columns-apart :
            (f' g' : List ℕ) → Linked (get_or a (i + 1) 0) (get_or b (i + 1) 0) None f g f' g'
            → RowsLinked a b (Err fresh) f₀ g₀ f' g'
        unfolding pair_terms
        columns-apart f' g' k =
            let linked = rw (add-one i) at k in
            record {
              same = record {
                joined = λ ps h e. true-false e refl;
                apart = λ ps h e. let (qs, q, s) = w.same ps h in sym s ∙ rw (more, more', linked.same.apart qs q refl);
              };
              size = w.size;
              forth-back = rw linked.forth-back w.forth-back;
              back-back = rw linked.back-back w.back-back;
            }

        module _ (made : Bool) (f' g' : List ℕ) (k : Linked (get_or a (i + 1) 0) (get_or b (i + 1) 0) (Some made) f g f' g') where
          linked : Linked (get_or a (suc i) 0) (get_or b (suc i) 0) (Some made) f g f' g'
          linked = rw (add-one i) at k

          forget : cleared (set fresh i made) (drop 1 a) f' ≡ f₀
          forget =
              let s : i < length (drop 1 a) = omega (arith, length-drop 1 a, r.left-size) in
              let e : get_or (drop 1 a) i 0 ≡ get_or a (suc i) 0 = get_or-drop 1 a i 0 ∙ ap (λ n. get_or a n 0) (omega arith) in
              cleared-set i made fresh (drop 1 a) f' w.none-later (omega (arith, w.size)) s
              ∙ rw (e, linked.forth-back) w.forth-back

          forget' : cleared (set fresh i made) (drop 1 b) g' ≡ g₀
          forget' =
              let s : i < length (drop 1 b) = omega (arith, length-drop 1 b, r.right-size) in
              let e : get_or (drop 1 b) i 0 ≡ get_or b (suc i) 0 = get_or-drop 1 b i 0 ∙ ap (λ n. get_or b n 0) (omega arith) in
              cleared-set i made fresh (drop 1 b) g' w.none-later (omega (arith, w.size)) s
              ∙ rw (e, linked.back-back) w.back-back

          flags-later : (j : ℕ) → suc i ≤ j → get_or (set fresh i made) j false ≡ false
          flags-later j h = get_or-set_other fresh i j made false (λ e. omega arith) ∙ w.none-later j (omega arith)

          -- the next terms are paired
          pub columns-next :
              length f' ≡ length f → length g' ≡ length g → Columns a b f₀ g₀ f' g' (set fresh i made) (i + 1)
          unfolding pair_terms
          columns-next lf lg =
              rw (add-one i)
              (record {
                size = length-set fresh i made ∙ w.size;
                none-later = flags-later;
                forth-size = lf ∙ w.forth-size;
                back-size = lg ∙ w.back-size;
                same = λ ps h.
                    let (qs, q, s) = w.same ps h in
                    let (os, e, o) = linked.same.joined qs q refl in
                    (os, o, rw (more, more', e) at s);
                forth-back = forget;
                back-back = forget';
              })

-- the columns from i on are cleared: the others still to clear give the answer for all
pub record Clearing (a b forth₀ back₀ forth back : List ℕ) (fresh : List Bool) (i : ℕ) : Type 0 where
  pub forth-size : length forth ≡ length forth₀
  pub back-size : length back ≡ length back₀
  pub forth-same : cleared (take i fresh) (drop 1 a) forth ≡ cleared fresh (drop 1 a) forth₀
  pub back-same : cleared (take i fresh) (drop 1 b) back ≡ cleared fresh (drop 1 b) back₀

module _ (a b f₀ g₀ f g : List ℕ) (fresh : List Bool) (i : ℕ) (r : Rows a b f₀ g₀) (n : length fresh ≡ 4)
    (w : Clearing a b f₀ g₀ f g fresh i) where
  -- all columns are cleared
  pub clearing-end :
      i ≤ 0 → (f ≡ cleared fresh (drop 1 a) f₀) × (g ≡ cleared fresh (drop 1 b) g₀)
  unfolding cleared
  clearing-end h =
      let e : i ≡ 0 = omega arith in
      (rw e at w.forth-same, rw e at w.back-same)

  module _ (h : 0 < i) (k : i ≤ 4) where
    back_one : suc (i - 1) ≡ i
    back_one = omega arith

    at-column : i - 1 + 1 ≡ i
    at-column = omega arith

    -- the last column left, of one side
    last-column :
        (c t : List ℕ) → length c ≡ 5
        → cleared (take i fresh) (drop 1 c) t
        ≡ cleared (take (i - 1) fresh) (drop 1 c) (cond (get_or fresh (i - 1) false) (set t (get_or c i 0) 0) t)
    last-column c t s =
        let e : get_or (drop 1 c) (i - 1) 0 ≡ get_or c i 0 = get_or-drop 1 c (i - 1) 0 ∙ ap (λ k. get_or c k 0) (omega arith) in
        let l : i - 1 < length (drop 1 c) = omega (arith, length-drop 1 c) in
        rw back_one at
        (rw e at (cleared-last (i - 1) fresh (drop 1 c) t (omega arith) l))

    -- partners were made there
    pub clearing-made :
        (x y : ℕ) → x ≡ get_or a (i - 1 + 1) 0 → y ≡ get_or b (i - 1 + 1) 0 → get_or fresh (i - 1) false ≡ true
        → Clearing a b f₀ g₀ (set f x 0) (set g y 0) fresh (i - 1)
    clearing-made x y ex ey t =
        record {
          forth-size = length-set f x 0 ∙ w.forth-size;
          back-size = length-set g y 0 ∙ w.back-size;
          forth-same = rw (ex, at-column) (sym (rw t at (last-column a f r.left-size)) ∙ w.forth-same);
          back-same = rw (ey, at-column) (sym (rw t at (last-column b g r.right-size)) ∙ w.back-same);
        }

    -- none were
    pub clearing-kept : get_or fresh (i - 1) false ≡ false → Clearing a b f₀ g₀ f g fresh (i - 1)
    clearing-kept t =
        record {
          forth-size = w.forth-size;
          back-size = w.back-size;
          forth-same = sym (rw t at (last-column a f r.left-size)) ∙ w.forth-same;
          back-same = sym (rw t at (last-column b g r.right-size)) ∙ w.back-same;
        }

-- the terms before i are paired: those from i on, under the renaming by now, give the answer for all
pub record Binding (a b forth₀ back₀ forth back : List ℕ) (i : ℕ) : Type 0 where
  pub forth-size : length forth ≡ length forth₀
  pub back-size : length back ≡ length back₀
  pub same :
      (ps : List Pair) → Graph forth₀ back₀ ps
      → (qs : List Pair) × Graph forth back qs
      × (pair_terms (map cell_term (drop i a)) (map cell_term (drop i b)) qs ≡ pair_terms (map cell_term a) (map cell_term b) ps)

module _ (a b f₀ g₀ f g : List ℕ) (i : ℕ) (e : length a ≡ length b) (w : Binding a b f₀ g₀ f g i) where
  -- no term is left
  pub bound-done : length a ≤ i → Joined true (pair_terms (map cell_term a) (map cell_term b)) f₀ g₀ f g
  unfolding pair_terms
  bound-done l =
      record {
        joined = λ ps h t.
            let (qs, k, s) = w.same ps h in
            (qs, sym (rw (drop_of_length-le a {i = i} l, drop_of_length-le b {i = i} (omega arith)) at s), k);
        apart = λ ps h t. true-false (sym t) refl;
      }

  module _ (l : i < length a) where
    first-left : map cell_term (drop i a) ≡ cell_term (get_or a i 0) ∷ map cell_term (drop (suc i) a)
    first-left = rw (drop-cons a i 0 l)

    first-right : map cell_term (drop i b) ≡ cell_term (get_or b i 0) ∷ map cell_term (drop (suc i) b)
    first-right = rw (drop-cons b i 0 (omega arith))

    module _ (link : Option Bool) (f' g' : List ℕ) (k : Linked (get_or a i 0) (get_or b i 0) link f g f' g') where
      -- the next terms cannot be made equal
      pub bound-apart : is_some link ≡ false → Joined false (pair_terms (map cell_term a) (map cell_term b)) f₀ g₀ f' g'
      unfolding pair_terms
      bound-apart t =
          record {
            joined = λ ps h z. true-false z refl;
            apart = λ ps h z.
                let (qs, q, s) = w.same ps h in
                sym (rw (first-left, first-right, k.same.apart qs q t) at s);
          }

      -- the next terms are paired
      pub bound-next :
          is_some link ≡ true → length f' ≡ length f → length g' ≡ length g → Binding a b f₀ g₀ f' g' (i + 1)
      unfolding pair_terms
      bound-next t lf lg =
          rw (add-one i)
          (record {
            forth-size = lf ∙ w.forth-size;
            back-size = lg ∙ w.back-size;
            same = λ ps h.
                let (qs, q, s) = w.same ps h in
                let (os, z, o) = k.same.joined qs q t in
                (os, o, rw (first-left, first-right, z) at s);
          })
