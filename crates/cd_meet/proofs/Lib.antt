mod MeetsPut
