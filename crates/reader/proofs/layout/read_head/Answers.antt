use Rattle.reader.proofs.Heading.{too_long, no-count, bad-count, no-version, bad-version, good-head}
use Rattle.reader.proofs.layout.read_head.Goals as goal

pub returns-then-bytes-gt-MODULE_MOST : goal.returns-then-bytes-gt-MODULE_MOST
returns-then-bytes-gt-MODULE_MOST c = too_long c.args.bytes.now c.if-bytes-gt-MODULE_MOST.true

pub returns-then-bytes-lt-COUNT : goal.returns-then-bytes-lt-COUNT
returns-then-bytes-lt-COUNT c = no-count c.args.bytes.now c.if-bytes-gt-MODULE_MOST.false c.if-bytes-lt-COUNT.true

pub returns-then-number_at-bytes : goal.returns-then-number_at-bytes
returns-then-number_at-bytes c = bad-count c.args.bytes.now c.if-bytes-gt-MODULE_MOST.false c.if-bytes-lt-COUNT.false _ c.number_at.ensures.0 c.if-number_at-bytes.true

pub returns-then-bytes-lt-HEAD : goal.returns-then-bytes-lt-HEAD
returns-then-bytes-lt-HEAD c = no-version c.args.bytes.now c.if-bytes-gt-MODULE_MOST.false c.if-bytes-lt-COUNT.false _ c.number_at.ensures.0 c.if-number_at-bytes.false c.if-bytes-lt-HEAD.true

pub returns-then-bytes-ne-MODULE_VERSION : goal.returns-then-bytes-ne-MODULE_VERSION
returns-then-bytes-ne-MODULE_VERSION c = bad-version c.args.bytes.now c.if-bytes-gt-MODULE_MOST.false c.if-bytes-lt-COUNT.false _ c.number_at.ensures.0 c.if-number_at-bytes.false c.if-bytes-lt-HEAD.false c.if-bytes-ne-MODULE_VERSION.true

pub returns : goal.returns
returns c = good-head c.args.bytes.now c.if-bytes-gt-MODULE_MOST.false c.if-bytes-lt-COUNT.false _ c.number_at.ensures.0 c.if-number_at-bytes.false c.if-bytes-lt-HEAD.false c.if-bytes-ne-MODULE_VERSION.false
