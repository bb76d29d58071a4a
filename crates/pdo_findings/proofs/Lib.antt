mod AbsentLemmas
