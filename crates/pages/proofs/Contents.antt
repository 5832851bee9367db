-- Pages as lists of what stands in their lines.
--   padded            rows, with empty ones behind them, n in all
--   head_of, contents, contents_from     line 1 of a page, the 60 lines of a page, and those of all pages
--   pages-contents    pages are these lines, each filled to 40 columns, with its line feed
--   contents-size     60 for each page
--   contents-all      a test of all lines of pages
--   page-lines        such lines, each filled to 40 columns, are lines that end
-- Assumes nothing.
use Prim.Native.Nat.{ℕ, zero, suc, ◌+◌, ◌*◌, ◌<◌}
use native.Mathlib.Omega.{arith}
use mathlib.Core.Bool.{Bool, true}
use mathlib.Core.List.{List, [], ◌∷◌, ◌++◌, map}
use mathlib.Core.Path.{◌≡◌, refl, sym, ap, ap₂, ◌∙◌}
use lib.ListN.{length, length-append}
use Rattle.text.specs.Lists.{every, gather}
use Rattle.text.proofs.Bools.{and-true}
use Rattle.text.proofs.ListLaws.{every-both, gather_append}
use Rattle.pages.specs.Pages.{filled, page_line, row_lines, aligned, head_line, page_of, pages_from}
use Rattle.pages.proofs.Lined.{ended}

-- rows, with empty ones behind them, n in all
unfoldable pub padded : ℕ → List (List ℕ) → List (List ℕ)
padded zero rs = []
padded (suc n) [] = [] ∷ padded n []
padded (suc n) (r ∷ rs) = r ∷ padded n rs

-- what stands in line 1 of page n, in the lines of page n, and in those of all pages from n on
unfoldable pub head_of : List ℕ → ℕ → List ℕ
head_of first n = filled 36 first ++ aligned n

abbrev pub contents : List ℕ → ℕ → List (List ℕ) → List (List ℕ)
contents first n rs = head_of first n ∷ [] ∷ padded 58 rs

abbrev pub contents_from : List ℕ → ℕ → List (List (List ℕ)) → List (List ℕ)
contents_from first n [] = []
contents_from first n (rs ∷ more) = contents first n rs ++ contents_from first (suc n) more

pub padded-size : (n : ℕ) (rs : List (List ℕ)) → length (padded n rs) ≡ n
unfolding padded
padded-size zero rs = refl
padded-size (suc n) [] = ap suc (padded-size n [])
padded-size (suc n) (r ∷ rs) = ap suc (padded-size n rs)

rows-padded : (n : ℕ) (rs : List (List ℕ)) → row_lines n rs ≡ gather page_line (padded n rs)
unfolding padded row_lines
rows-padded zero rs = refl
rows-padded (suc n) [] = ap (λ (l : List ℕ). page_line [] ++ l) (rows-padded n [])
rows-padded (suc n) (r ∷ rs) = ap (λ (l : List ℕ). page_line r ++ l) (rows-padded n rs)

page-contents : (first : List ℕ) (n : ℕ) (rs : List (List ℕ)) → page_of first n rs ≡ gather page_line (contents first n rs)
unfolding page_of head_line head_of
page-contents first n rs =
    ap (λ (l : List ℕ). page_line (filled 36 first ++ aligned n) ++ (page_line [] ++ l)) (rows-padded 58 rs)

-- pages are their lines, each filled to 40 columns, with its line feed
pub pages-contents : (first : List ℕ) (n : ℕ) (ps : List (List (List ℕ)))
    → pages_from first n ps ≡ gather page_line (contents_from first n ps)
unfolding pages_from
pages-contents first n [] = refl
pages-contents first n (rs ∷ more) =
    ap₂ (λ (a b : List ℕ). a ++ b) (page-contents first n rs) (pages-contents first (suc n) more)
    ∙ sym (gather_append page_line (contents first n rs) (contents_from first (suc n) more))

-- a page has 60 lines
pub page-size : (first : List ℕ) (n : ℕ) (rs : List (List ℕ)) → length (contents first n rs) ≡ 60
page-size first n rs = omega (arith, padded-size 58 rs)

pub contents-size : (first : List ℕ) (n : ℕ) (ps : List (List (List ℕ))) → length (contents_from first n ps) ≡ 60 * length ps
contents-size first n [] = refl
contents-size first n (rs ∷ more) =
    omega (
      arith,
      length-append (contents first n rs) (contents_from first (suc n) more),
      page-size first n rs,
      contents-size first (suc n) more,
    )

padded-all : (t : List ℕ → Bool) (n : ℕ) (rs : List (List ℕ)) → t [] ≡ true → every t rs ≡ true → every t (padded n rs) ≡ true
unfolding padded
padded-all t zero rs e h = refl
padded-all t (suc n) [] e h = rw (e, padded-all t n [] e h)
padded-all t (suc n) (r ∷ rs) e h =
    let (first, rest) = and-true (t r) (every t rs) h in
    rw (first, padded-all t n rs e rest)

-- a test that an empty line, line 1 of each page and all rows pass
pub contents-all : (t : List ℕ → Bool) (first : List ℕ) (n : ℕ) (ps : List (List (List ℕ))) → t [] ≡ true
    → ((k : ℕ) → k < n + length ps → t (head_of first k) ≡ true) → every (every t) ps ≡ true
    → every t (contents_from first n ps) ≡ true
contents-all t first n [] e heads h = refl
contents-all t first n (rs ∷ more) e heads h =
    let (here, rest) = and-true (every t rs) (every (every t) more) h in
    let page : every t (contents first n rs) ≡ true = rw (heads n (omega arith), e, padded-all t 58 rs e here) in
    every-both t (contents first n rs) (contents_from first (suc n) more) page
    (contents-all t first (suc n) more e (λ k. λ low. heads k (omega arith)) rest)

-- lines of a page are lines that end
pub page-lines : (cs : List (List ℕ)) → gather page_line cs ≡ gather ended (map (filled 40) cs)
unfolding page_line ended
page-lines [] = refl
page-lines (c ∷ cs) = ap (λ (l : List ℕ). filled 40 c ++ (10 ∷ []) ++ l) (page-lines cs)
