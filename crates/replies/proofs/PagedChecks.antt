-- The pages of every listing of a check (document 02, W6).
--   read-back       the listing can be read back from its pages
--   pages-few       there are at most 17 of them
--   pages-fit       so they fit 41,820 bytes
--   pages-shaped    all that is claimed of them: each has 60 lines of 40 columns too
-- Assumes nothing.
use Prim.Native.Nat.{ℕ, ◌*◌, ◌≤◌}
use native.Mathlib.Omega.{arith}
use mathlib.Core.List.{List}
use mathlib.Core.Path.{◌≡◌}
use lib.ListN.{length}
use Rattle.syntax.specs.Answers.{accepted}
use Rattle.syntax.specs.Programs.{Reading, read_program}
use Rattle.pages.specs.Pages.{pages_of, page_count, page_size, max_pages, read_back}
use Rattle.pages.proofs.LineLaws.{rows-lined}
use Rattle.pages.proofs.ReadBack.{read-back-lined}
use Rattle.pages.proofs.SizeLaws.{pages-counted, pages-size, pages-exact}
use Rattle.replies.specs.Replies.{check_listing}
use Rattle.replies.specs.Claims.{PagedOn}
use Rattle.replies.proofs.CheckRows.{check-lined, check-first}

-- the listing can be read back from its pages
pub read_back_lem :
    (program : List ℕ) (p : Reading) → read_program program ≡ accepted p
    → read_back (pages_of (check_listing p)) ≡ check_listing p
read_back_lem program p e = read-back-lined (check-lined program p e)

-- no listing of a check needs more than 17 pages
pub pages-few : (program : List ℕ) (p : Reading) → read_program program ≡ accepted p → page_count (check_listing p) ≤ max_pages
unfolding max_pages
pages-few program p e = pages-counted (check_listing p) 17 (omega (arith, rows-lined (check-lined program p e)))

-- each page has 2,460 bytes
pages-sized :
    (program : List ℕ) (p : Reading) → read_program program ≡ accepted p
    → length (pages_of (check_listing p)) ≡ page_size * page_count (check_listing p)
unfolding max_pages
pages-sized program p e =
    pages-size (check_listing p) (omega (arith, check-first p)) (omega (arith, pages-few program p e))

-- so room for 17 pages is enough
pub pages-fit :
    (program : List ℕ) (p : Reading) → read_program program ≡ accepted p
    → length (pages_of (check_listing p)) ≤ max_pages * page_size
unfolding max_pages page_size
pages-fit program p e = omega (arith, pages-sized program p e, pages-few program p e)

-- all that is claimed of the pages of a check
pub pages-shaped : (program : List ℕ) (p : Reading) → read_program program ≡ accepted p → PagedOn p
unfolding max_pages
pages-shaped program p e =
    let few = pages-few program p e in
    let (sixty, forty) = pages-exact (check-lined program p e) (omega (arith, check-first p)) (omega (arith, few)) in
    record {
      back = read_back_lem program p e;
      few = few;
      sized = pages-sized program p e;
      sixty = sixty;
      forty = forty;
    }
