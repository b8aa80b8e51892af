use Rattle.sd_search.specs.Graphs.{packed, steps_of}
use Rattle.sd_search.proofs.StoreLemmas.{bytes_read}
use Rattle.sd_search.proofs.TellLemmas.{read_there}
use Rattle.sd_search.proofs.TurnLemmas.{spelled_there}
use Rattle.sd_search.proofs.graph.Graph.state.Goals as goal

pub unpack-requires : goal.unpack-requires
unpack-requires c =
    let g = c.args.self.now in
    record {
      spelled = spelled_there c.args.work.now (packed g) (steps_of g) g.done c.requires.gathered c.args.i c.deref.result.now c.requires.inside
          (bytes_read c.as_slice.result.now g.states.keys c.index-as_slice-i.result c.args.i c.deref.result.now c.as_slice.ensures.keys c.requires.inside c.index-as_slice-i.is c.deref.ensures.value);
    }

pub returns : goal.returns
returns c =
    let g = c.args.self.now in
    read_there (packed g) c.args.i c.deref.result.now c.unpack.result
    (bytes_read c.as_slice.result.now g.states.keys c.index-as_slice-i.result c.args.i c.deref.result.now c.as_slice.ensures.keys c.requires.inside c.index-as_slice-i.is c.deref.ensures.value) c.unpack.ensures.held c.unpack.ensures.bytes
