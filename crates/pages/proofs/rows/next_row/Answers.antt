-- `pages::rows::next_row` meets its contract: the row is cut, ends with its line, or ends with the listing. Assumes nothing.
use Rattle.pages.proofs.PlaceLaws.{feed-behind, row_cut, row-ended, row_last}
use Rattle.pages.proofs.rows.next_row.Goals as goal

pub returns-then-most-feed : goal.returns-then-most-feed
returns-then-most-feed c =
    row_cut _ _ _ c.requires c.line_end-feed.ensures c.columns-most.ensures c.if-most-feed.true

pub returns-then-feed-listing : goal.returns-then-feed-listing
returns-then-feed-listing c =
    row-ended _ _ _ c.requires c.line_end-feed.ensures c.columns-most.ensures c.if-most-feed.false
    c.if-feed-listing.true

pub returns : goal.returns
returns c =
    row_last _ _ _ c.requires c.line_end-feed.ensures c.columns-most.ensures c.if-most-feed.false
    c.if-feed-listing.false

pub overflow_sub-feed : goal.overflow_sub-feed
overflow_sub-feed c = feed-behind _ _ _ c.line_end-feed.ensures
