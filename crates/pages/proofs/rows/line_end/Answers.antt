-- `pages::rows::line_end` meets its contract: the first line feed from a place on, or the listing's end. Assumes nothing.
use Rattle.std.proofs.Common.{◌≡◌, ap, ◌∙◌, rules, tests, ◌+◌, ℕ}
use Rattle.std.proofs.lemmas.Iterator.{IsFirst-from_position, YieldsList-from_slice}
use Rattle.pages.proofs.PlaceLaws.{feed-first}
use Rattle.pages.proofs.rows.line_end.Goals as goal

pub returns : goal.returns
returns c =
    let first = IsFirst-from_position _ _ _ (λ x. x ≡ 10) (λ x. x ≡ 10 → ⊥) c.position.ensures.ran
    (YieldsList-from_slice _ c.iter.ensures.rest) (λ x q k. search (rules, tests)) (λ x q k. search (rules, tests)) in
    ap (λ (n : ℕ). c.args.at + n) c.unwrap_or.ensures ∙ feed-first _ _ _ first
