use Rattle.std.proofs.Common.{◌≡◌, ◌+◌, ◌-◌, arith}
use Rattle.bookfile.proofs.Walks.{record_place}
use Rattle.bookfile.proofs.reading.record.Goals as goal

pub returns-clause-bytes : goal.returns-clause-bytes
returns-clause-bytes c =
    let s = c.stretch_of-place.result in
    let e : s.at + s.size - s.at ≡ s.size = omega arith in
    rw (e, c.stretch_of-place.ensures.place) (record_place _ _)
