-- The code says the definition, operation by operation; the remainder is below the number of buckets.
use Rattle.finder.specs.Bucket.{bucket_of}
use borrow.Author.Rules.{rules}
use Rattle.finder.proofs.bucket.bucket_of.Goals as goal

pub returns : goal.returns
unfolding bucket_of
returns c = (rw (c.u16_at-first.ensures, c.u16_at-last.ensures), search rules)
